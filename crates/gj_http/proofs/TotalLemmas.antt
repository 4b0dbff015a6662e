-- All bytes are cut.
use Rattle.std.proofs.Common.{◌≡◌, ℕ, zero, suc, ◌+◌, ◌<◌, ◌≤◌, ◌⊎◌, Bool, true, false, if◌then◌else◌, eqb, List, [], ◌∷◌, length, take, drop, Option, Some, None, Result, Ok, Err, refl, ap, ◌∙◌, arith, inl, inr, length-drop}
use Rattle.std.specs.Option.{option_map}
use Rattle.std.proofs.lemmas.Bool.{cases_lt, eqb-false}
use Rattle.httparse.specs.Grammar.{RequestHead}
use Rattle.gj_http.specs.Request.{Request}
use Rattle.gj_http.specs.Heads.{IsHead, body_length, request_of}
use Rattle.gj_http.specs.Cut.{empty_lines, reach, close_of_head, head_end, head_length, head_bytes, after_head, IsMessage, IsRefused, NeedsMore, Cuts}
use Rattle.gj_http.specs.declared.message.Refused.{Refused}
use Rattle.gj_http.specs.declared.message.Refused.TheVariants.{Head, HeadLong}
use Rattle.gj_http.proofs.DecideLemmas.{Settled, head_or_none}
use Rattle.gj_http.proofs.BoundLemmas.{head_length-within}

abbrev pub Front : List ℕ → Type 0
Front bytes =
    ((request : Request) × (rest : List ℕ) × IsMessage bytes request rest)
    ⊎ (((why : Refused) × IsRefused bytes why) ⊎ NeedsMore bytes)

past_head : (bytes : List ℕ) (size : ℕ) (h : RequestHead) → head_length bytes ≡ Some size → IsHead (head_bytes bytes size) h
    → (r : Result ℕ Refused) → body_length h ≡ r → Front bytes
past_head bytes size h ends is (Err why) stated =
    inr (inl (
      why,
      inr (inr (record {
        head = h;
        tail = after_head bytes size;
        begins = record { size = size; ends = ends; is_head = is; follows = refl };
        stated = stated;
      })),
    ))
past_head bytes size h ends is (Ok n) stated =
    elim (cases_lt (length (after_head bytes size)) n) [
      | inl short ↦
          inr (inr (inr (record {
            head = h;
            tail = after_head bytes size;
            count = n;
            begins = record { size = size; ends = ends; is_head = is; follows = refl };
            stated = stated;
            short = short;
          })))
      | inr whole ↦
          inl (
            request_of h (take n (after_head bytes size)),
            drop n (after_head bytes size),
            record {
              head = h;
              tail = after_head bytes size;
              count = n;
              begins = record { size = size; ends = ends; is_head = is; follows = refl };
              stated = stated;
              whole = whole;
              request_is = refl;
              rest_is = refl;
            },
          )
    ]

at_end : (bytes : List ℕ) (size : ℕ) → head_length bytes ≡ Some size → Settled ((h : RequestHead) × IsHead (head_bytes bytes size) h) → Front bytes
at_end bytes size ends (inl x) = past_head bytes size x.0 ends x.1 (body_length x.0) refl
at_end bytes size ends (inr none) =
    inr (inl (Head, inr (inl (record { why_is = refl; size = size; ends = ends; no_head = λ h is. none (h, is) }))))

by_end : (bytes : List ℕ) (o : Option ℕ) → head_length bytes ≡ o → Front bytes
by_end bytes (Some size) ends = at_end bytes size ends (head_or_none (head_bytes bytes size))
by_end bytes None ends =
    elim (cases_lt (length bytes) 8192) [
      | inl short ↦ inr (inr (inl (record { open_ended = ends; short = short })))
      | inr full ↦ inr (inl (HeadLong, inl (record { why_is = refl; open_ended = ends; full = full })))
    ]

pub front_of : (bytes : List ℕ) → Front bytes
front_of bytes = by_end bytes (head_length bytes) refl

end_above : (t : Bool) (o : Option ℕ) (close n : ℕ) → eqb close 0 ≡ t
    → (if t then option_map (λ k. 1 + k) o else Some close) ≡ Some n → 0 < n
end_above true None close n test is = absurd (cc)
end_above true (Some k) close n test is =
    let next : 1 + k ≡ n = cc in
    omega (arith, next)
end_above false o close n test is =
    let here : close ≡ n = cc in
    elim (cases_lt 0 close) [
      | inl some ↦ omega (arith, some, here)
      | inr below ↦ absurd (eqb-false close 0 test (omega (arith, below)))
    ]

head_end-above : (bytes : List ℕ) (n : ℕ) → head_end bytes ≡ Some n → 0 < n
head_end-above [] n is = absurd (cc)
head_end-above (b ∷ bytes) n is = end_above (eqb (close_of_head (b ∷ bytes)) 0) (head_end bytes) (close_of_head (b ∷ bytes)) n refl is

head_length-above : (bytes : List ℕ) (n : ℕ) → head_length bytes ≡ Some n → 0 < n
unfolding head_length
head_length-above bytes n is = head_end-above (drop (empty_lines (reach bytes)) (reach bytes)) n is

-- a message has bytes
pub IsMessage-shorter : (bytes : List ℕ) (request : Request) (rest : List ℕ) → IsMessage bytes request rest → length rest < length bytes
unfolding after_head
IsMessage-shorter bytes request rest is =
    let begins = is.begins in
    let within = head_length-within bytes begins.size begins.ends in
    let some = head_length-above bytes begins.size begins.ends in
    let tail = ap length begins.follows ∙ length-drop (empty_lines (reach bytes) + begins.size) bytes in
    let left = ap length is.rest_is ∙ length-drop is.count is.tail in
    omega (arith, within.1, some, tail, left)

cut_within : (n : ℕ) (bytes : List ℕ) → length bytes ≤ n
    → (messages : List Request) × (refusal : Option Refused) × (rest : List ℕ) × Cuts bytes messages refusal rest
cut_within zero bytes short =
    elim (front_of bytes) [
      | inl m ↦ absurd (omega (arith, short, IsMessage-shorter bytes m.0 m.1 m.2))
      | inr (inl why) ↦ ([], Some why.0, bytes, (why.1, refl))
      | inr (inr more) ↦ ([], None, bytes, (more, refl))
    ]
cut_within (suc n) bytes short =
    elim (front_of bytes) [
      | inl m ↦
          let later = cut_within n m.1 (omega (arith, short, IsMessage-shorter bytes m.0 m.1 m.2)) in
          (m.0 ∷ later.0, later.1, later.2, (m.1, (m.2, later.3)))
      | inr (inl why) ↦ ([], Some why.0, bytes, (why.1, refl))
      | inr (inr more) ↦ ([], None, bytes, (more, refl))
    ]

pub some_cut : (bytes : List ℕ) → (messages : List Request) × (refusal : Option Refused) × (rest : List ℕ) × Cuts bytes messages refusal rest
some_cut bytes = cut_within (length bytes) bytes (omega arith)
