-- What stands at the front of a beginning stands at the front of the whole.
use Rattle.std.proofs.Common.{◌≡◌, ℕ, ◌+◌, ◌-◌, ◌<◌, ◌≤◌, Bool, true, false, ◌&&◌, not, if◌then◌else◌, List, [], ◌∷◌, ◌++◌, length, take, drop, Option, Some, None, refl, sym, ap, subst, ◌∙◌, arith, eqb, length-drop, length-append, inl, inr}
use Rattle.std.specs.Option.{option_map}
use Rattle.std.proofs.lemmas.Bool.{cases_lt, cond-true, cond-false, eqb-false}
use Rattle.std.proofs.lemmas.List.{append-nil, take-append-le, drop-append-le, drop-drop, take_all}
use Rattle.std.proofs.Math.Seq.{take-append-add}
use Rattle.httparse.specs.Grammar.{RequestHead}
use Rattle.httparse.proofs.GrammarLemmas.{request_unique}
use Rattle.gj_http.specs.Request.{Request}
use Rattle.gj_http.specs.Heads.{IsHead, request_of}
use Rattle.gj_http.specs.Cut.{empty_line, empty_lines, close_of_head, head_end, head_length, head_bytes, after_head, reach, BeginsWith, IsMessage, IsRefused}
use Rattle.gj_http.specs.declared.message.Refused.{Refused}
use Rattle.gj_http.proofs.FrontLemmas.{empty_lines-le-length, head_end_found, head_end_more}
use Rattle.gj_http.proofs.BoundLemmas.{head_length-within}

-- ---- the empty lines

lines_same : (t u : Bool) (x y v w : ℕ) → (t ≡ true → v ≡ x) → (t ≡ false → u ≡ true → w ≡ y)
    → (if t then 1 + v else (if u then 2 + w else 0)) ≡ (if t then 1 + x else (if u then 2 + y else 0))
lines_same true u x y v w one two = ap (λ (n : ℕ). 1 + n) (one refl)
lines_same false true x y v w one two = ap (λ (n : ℕ). 2 + n) (two refl refl)
lines_same false false x y v w one two = refl

no_end_in_one : (a n : ℕ) (t : Bool) → head_end (drop (if t then 1 else 0) (a ∷ [])) ≡ Some n → ⊥
no_end_in_one a n true is = absurd (cc)
no_end_in_one a n false is = one (eqb a 10) is
  where
    one : (u : Bool) → (if (eqb (if (u && false) then 1 else 0) 0) then None else Some (if (u && false) then 1 else 0)) ≡ Some n → ⊥
    one true is = absurd (cc)
    one false is = absurd (cc)

-- lines before a head's end stay as they are
pub empty_lines-append : (bytes more : List ℕ) (n : ℕ) → head_end (drop (empty_lines bytes) bytes) ≡ Some n
    → empty_lines (bytes ++ more) ≡ empty_lines bytes
empty_lines-append [] more n is = absurd (cc)
empty_lines-append (a ∷ []) more n is = absurd (no_end_in_one a n (eqb a 10) is)
empty_lines-append (a ∷ b ∷ bytes) more n is =
    let t = eqb a 10 in
    let u = eqb a 13 && eqb b 10 in
    let one = empty_lines (b ∷ bytes) in
    let two = empty_lines bytes in
    lines_same t u one two (empty_lines ((b ∷ bytes) ++ more)) (empty_lines (bytes ++ more))
    (λ yes.
    let passed : empty_lines (a ∷ b ∷ bytes) ≡ 1 + one = cond-true t (1 + one) (if u then 2 + two else 0) yes in
    empty_lines-append (b ∷ bytes) more n
    (ap head_end (drop-drop one 1 (a ∷ b ∷ bytes) ∙ ap (λ (k : ℕ). drop k (a ∷ b ∷ bytes)) (sym passed)) ∙ is))
    (λ no yes.
    let passed : empty_lines (a ∷ b ∷ bytes) ≡ 2 + two =
    cond-false t (1 + one) (if u then 2 + two else 0) no ∙ cond-true u (2 + two) 0 yes in
    empty_lines-append bytes more n
    (ap head_end (drop-drop two 2 (a ∷ b ∷ bytes) ∙ ap (λ (k : ℕ). drop k (a ∷ b ∷ bytes)) (sym passed)) ∙ is))

-- ---- the head's end

empty_line-append : (bytes more : List ℕ) → 0 < empty_line bytes → empty_line (bytes ++ more) ≡ empty_line bytes
empty_line-append [] more some = absurd (omega arith)
empty_line-append (a ∷ []) [] some = refl
empty_line-append (a ∷ []) (b ∷ more) some = one (eqb a 10) (eqb a 13 && eqb b 10) (empty_line (a ∷ [])) refl some
  where
    one : (t u : Bool) (n : ℕ) → (if t then 1 else 0) ≡ n → 0 < n → (if t then 1 else (if u then 2 else 0)) ≡ n
    one true u n is some = is
    one false u n is some = absurd (omega arith)
empty_line-append (a ∷ b ∷ bytes) more some = refl

-- where a head ends further on, whether an empty line stands at the front is settled
empty_line-append_end : (bytes more : List ℕ) (n : ℕ) → head_end bytes ≡ Some n → empty_line (bytes ++ more) ≡ empty_line bytes
empty_line-append_end [] more n is = absurd (cc)
empty_line-append_end (a ∷ []) more n is = absurd (no_end_in_one a n false is)
empty_line-append_end (a ∷ b ∷ bytes) more n is = refl

pub close_same : (b : ℕ) (bytes more : List ℕ) → empty_line (bytes ++ more) ≡ empty_line bytes
    → close_of_head (b ∷ (bytes ++ more)) ≡ close_of_head (b ∷ bytes)
close_same b bytes more same = ap (λ (k : ℕ). if eqb b 10 && not (eqb k 0) then 1 + k else 0) same

some_line : (b k : ℕ) → 0 < (if eqb b 10 && not (eqb k 0) then 1 + k else 0) → 0 < k
some_line b k some = by_test (eqb b 10) (eqb k 0) refl some
  where
    by_test : (t u : Bool) → eqb k 0 ≡ u → 0 < (if t && not u then 1 + k else 0) → 0 < k
    by_test true true is some = absurd (omega arith)
    by_test true false is some =
        elim (cases_lt 0 k) [
          | inl above ↦ above
          | inr below ↦ absurd (eqb-false k 0 is (omega (arith, below)))
        ]
    by_test false u is some = absurd (omega arith)

option_map_is : (o : Option ℕ) (n : ℕ) → option_map (λ k. 1 + k) o ≡ Some n → (m : ℕ) × (o ≡ Some m) × (1 + m ≡ n)
option_map_is None n is = absurd (cc)
option_map_is (Some m) n is = (m, refl, cc)

pub head_end-append : (bytes more : List ℕ) (n : ℕ) → head_end bytes ≡ Some n → head_end (bytes ++ more) ≡ Some n
head_end-append [] more n is = absurd (cc)
head_end-append (b ∷ bytes) more n is =
    elim (cases_lt 0 (close_of_head (b ∷ bytes))) [
      | inl some ↦
          let same = close_same b bytes more (empty_line-append bytes more (some_line b (empty_line bytes) some)) in
          let here = head_end_found (b ∷ bytes) some in
          head_end_found (b ∷ (bytes ++ more)) (omega (arith, same, some)) ∙ ap Some same ∙ sym here ∙ is
      | inr none ↦
          let none' : close_of_head (b ∷ bytes) ≡ 0 = omega (arith, none) in
          let further = option_map_is (head_end bytes) n (sym (head_end_more b bytes none') ∙ is) in
          let same = close_same b bytes more (empty_line-append_end bytes more further.0 further.1) in
          head_end_more b (bytes ++ more) (same ∙ none')
          ∙ ap (option_map (λ k. 1 + k)) (head_end-append bytes more further.0 further.1)
          ∙ ap Some further.2
    ]

-- ---- the head

pub reach-append : (bytes more : List ℕ) → (c : List ℕ) × (reach (bytes ++ more) ≡ reach bytes ++ c)
reach-append bytes more =
    elim (cases_lt 8192 (length bytes)) [
      | inl past ↦ ([], take-append-le 8192 bytes more (omega (arith, past)) ∙ sym (append-nil (reach bytes)))
      | inr short ↦
          let n : 8192 ≡ length bytes + (8192 - length bytes) = omega (arith, short) in (
            take (8192 - length bytes) more,
            ap (λ (k : ℕ). take k (bytes ++ more)) n
                ∙ take-append-add bytes more (8192 - length bytes)
                ∙ ap (λ (w : List ℕ). w ++ take (8192 - length bytes) more) (sym (take_all 8192 bytes short)),
          )
    ]

-- where the head ends in a beginning, the lines before it are those of the whole
pub lines_same_in_window : (bytes more : List ℕ) (n : ℕ) → head_length bytes ≡ Some n
    → empty_lines (reach (bytes ++ more)) ≡ empty_lines (reach bytes)
unfolding head_length
lines_same_in_window bytes more n is =
    let w = reach-append bytes more in
    ap empty_lines w.1 ∙ empty_lines-append (reach bytes) w.0 n is

pub head_length-append : (bytes more : List ℕ) (n : ℕ) → head_length bytes ≡ Some n → head_length (bytes ++ more) ≡ Some n
unfolding head_length
head_length-append bytes more n is =
    let w = reach-append bytes more in
    let lines = lines_same_in_window bytes more n is in
    ap (λ (k : ℕ). head_end (drop k (reach (bytes ++ more)))) lines
    ∙ ap (λ (s : List ℕ). head_end (drop (empty_lines (reach bytes)) s)) w.1
    ∙ ap head_end (drop-append-le (empty_lines (reach bytes)) (reach bytes) w.0 (empty_lines-le-length (reach bytes)))
    ∙ head_end-append (drop (empty_lines (reach bytes)) (reach bytes)) w.0 n is

-- a full reach shows all that decides where the head ends
pub head_length-append_full : (bytes more : List ℕ) → 8192 ≤ length bytes → head_length (bytes ++ more) ≡ head_length bytes
unfolding head_length
head_length-append_full bytes more full =
    ap (λ (w : List ℕ). head_end (drop (empty_lines w) w)) (take-append-le 8192 bytes more full)

pub head_bytes-append : (bytes more : List ℕ) (n : ℕ) → head_length bytes ≡ Some n
    → head_bytes (bytes ++ more) n ≡ head_bytes bytes n
unfolding head_bytes
head_bytes-append bytes more n is =
    let within = head_length-within bytes n is in
    let lines = lines_same_in_window bytes more n is in
    let passed : empty_lines (reach bytes) ≤ length bytes = omega (arith, within.1) in
    let there : n ≤ length (drop (empty_lines (reach bytes)) bytes) = omega (arith, within.1, length-drop (empty_lines (reach bytes)) bytes) in
    ap (λ (k : ℕ). take n (drop k (bytes ++ more))) lines
    ∙ ap (take n) (drop-append-le (empty_lines (reach bytes)) bytes more passed)
    ∙ take-append-le n (drop (empty_lines (reach bytes)) bytes) more there

pub after_head-append : (bytes more : List ℕ) (n : ℕ) → head_length bytes ≡ Some n
    → after_head (bytes ++ more) n ≡ after_head bytes n ++ more
unfolding after_head
after_head-append bytes more n is =
    let within = head_length-within bytes n is in
    let lines = lines_same_in_window bytes more n is in
    ap (λ (k : ℕ). drop (k + n) (bytes ++ more)) lines
    ∙ drop-append-le (empty_lines (reach bytes) + n) bytes more within.1

pub BeginsWith-append : (bytes more : List ℕ) (head : RequestHead) (tail : List ℕ)
    → BeginsWith bytes head tail → BeginsWith (bytes ++ more) head (tail ++ more)
BeginsWith-append bytes more head tail begins = record {
  size = begins.size;
  ends = head_length-append bytes more begins.size begins.ends;
  is_head = subst (λ (b : List ℕ). IsHead b head) (sym (head_bytes-append bytes more begins.size begins.ends)) begins.is_head;
  follows = ap (λ (b : List ℕ). b ++ more) begins.follows ∙ sym (after_head-append bytes more begins.size begins.ends);
}

pub some_same : (o : Option ℕ) (m n : ℕ) → o ≡ Some m → o ≡ Some n → m ≡ n
some_same o m n x y = cc

pub IsHead-unique : (bytes : List ℕ) (h k : RequestHead) → IsHead bytes h → IsHead bytes k → h ≡ k
IsHead-unique bytes h k x y = (request_unique bytes h k [] [] x.reads y.reads).0

pub BeginsWith-unique : (bytes : List ℕ) (h k : RequestHead) (t u : List ℕ)
    → BeginsWith bytes h t → BeginsWith bytes k u → (h ≡ k) × (t ≡ u)
BeginsWith-unique bytes h k t u x y =
    let size = some_same (head_length bytes) x.size y.size x.ends y.ends in (
      IsHead-unique (head_bytes bytes x.size) h k x.is_head
          (subst (λ (n : ℕ). IsHead (head_bytes bytes n) k) (sym size) y.is_head),
      x.follows ∙ ap (after_head bytes) size ∙ sym y.follows,
    )

-- ---- what stands at the front

pub IsMessage-append : (bytes more : List ℕ) (request : Request) (rest : List ℕ)
    → IsMessage bytes request rest → IsMessage (bytes ++ more) request (rest ++ more)
IsMessage-append bytes more request rest is = record {
  head = is.head;
  tail = is.tail ++ more;
  count = is.count;
  begins = BeginsWith-append bytes more is.head is.tail is.begins;
  stated = is.stated;
  whole = omega (arith, is.whole, length-append is.tail more);
  request_is = is.request_is ∙ ap (request_of is.head) (sym (take-append-le is.count is.tail more is.whole));
  rest_is = ap (λ (b : List ℕ). b ++ more) is.rest_is ∙ sym (drop-append-le is.count is.tail more is.whole);
}

pub IsRefused-append : (bytes more : List ℕ) (why : Refused) → IsRefused bytes why → IsRefused (bytes ++ more) why
IsRefused-append bytes more why (inl long) =
    inl (record {
      why_is = long.why_is;
      open_ended = head_length-append_full bytes more long.full ∙ long.open_ended;
      full = omega (arith, long.full, length-append bytes more);
    })
IsRefused-append bytes more why (inr (inl none)) =
    inr (inl (record {
      why_is = none.why_is;
      size = none.size;
      ends = head_length-append bytes more none.size none.ends;
      no_head = λ h is. none.no_head h (subst (λ (b : List ℕ). IsHead b h) (head_bytes-append bytes more none.size none.ends) is);
    }))
IsRefused-append bytes more why (inr (inr none)) =
    inr (inr (record {
      head = none.head;
      tail = none.tail ++ more;
      begins = BeginsWith-append bytes more none.head none.tail none.begins;
      stated = none.stated;
    }))
