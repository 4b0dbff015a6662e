-- How long the bytes are that need more.
use Rattle.std.proofs.Common.{◌≡◌, ℕ, suc, ◌+◌, ◌≤◌, Bool, true, false, ◌&&◌, not, if◌then◌else◌, List, [], ◌∷◌, length, drop, Option, Some, None, Ok, Err, refl, ap, ◌∙◌, arith, eqb, leb, ltb, codes, length-drop, length-take, inl, inr}
use Rattle.std.specs.Option.{option_map}
use Rattle.std.specs.Str.Parse.{digits_value}
use Rattle.std.proofs.lemmas.Bool.{leb-true}
use Rattle.httparse.specs.Grammar.{RequestHead}
use Rattle.gj_http.specs.Heads.{is_number, values, one_length, lines_of, body_length}
use Rattle.gj_http.specs.Cut.{empty_line, empty_lines, close_of_head, head_end, head_length, after_head, reach, NeedsMore}
use Rattle.gj_http.specs.declared.message.Refused.TheVariants.{Coded, Length, BodyLong}
use Rattle.gj_http.proofs.FrontLemmas.{empty_line-le-length, empty_lines-le-length}

close_of_head-le-length : (bytes : List ℕ) → close_of_head bytes ≤ length bytes
close_of_head-le-length [] = omega arith
close_of_head-le-length (b ∷ bytes) = by_test (eqb b 10 && not (eqb (empty_line bytes) 0)) (empty_line-le-length bytes)
  where
    by_test : (t : Bool) → empty_line bytes ≤ length bytes → (if t then 1 + empty_line bytes else 0) ≤ length (b ∷ bytes)
    by_test true short = omega arith
    by_test false short = omega arith

end_within : (t : Bool) (o : Option ℕ) (close m n : ℕ) → ((k : ℕ) → o ≡ Some k → k ≤ m) → close ≤ suc m
    → (if t then option_map (λ k. 1 + k) o else Some close) ≡ Some n → n ≤ suc m
end_within true None close m n below short is = absurd (cc)
end_within true (Some k) close m n below short is =
    let next : 1 + k ≡ n = cc in
    omega (arith, next, below k refl)
end_within false o close m n below short is =
    let here : close ≡ n = cc in
    omega (arith, here)

pub head_end-within : (bytes : List ℕ) (n : ℕ) → head_end bytes ≡ Some n → n ≤ length bytes
head_end-within [] n is = absurd (cc)
head_end-within (b ∷ bytes) n is =
    end_within (eqb (close_of_head (b ∷ bytes)) 0) (head_end bytes) (close_of_head (b ∷ bytes)) (length bytes) n
    (head_end-within bytes) (close_of_head-le-length (b ∷ bytes)) is

-- the head ends in the reach
pub head_length-within : (bytes : List ℕ) (n : ℕ) → head_length bytes ≡ Some n
    → (empty_lines (reach bytes) + n ≤ 8192) × (empty_lines (reach bytes) + n ≤ length bytes)
unfolding head_length
head_length-within bytes n is =
    let seen = reach bytes in
    let inside = head_end-within (drop (empty_lines seen) seen) n is in
    let left = length-drop (empty_lines seen) seen in
    let passed = empty_lines-le-length seen in
    let size = length-take 8192 bytes in
    (omega (arith, inside, left, passed, size), omega (arith, inside, left, passed, size))

stated_le : (t u : Bool) (d n : ℕ) → leb d 1048576 ≡ u
    → (if t then (if u then Ok d else Err BodyLong) else Err Length) ≡ Ok n → n ≤ 1048576
stated_le true true d n small is =
    let here : d ≡ n = cc in
    omega (arith, here, leb-true d 1048576 small)
stated_le true false d n small is = absurd (cc)
stated_le false u d n small is = absurd (cc)

one_length_le : (texts : List (List ℕ)) (n : ℕ) → one_length texts ≡ Ok n → n ≤ 1048576
one_length_le [] n is =
    let here : 0 ≡ n = cc in
    omega (arith, here)
one_length_le (text ∷ []) n is = stated_le (is_number text) (leb (digits_value 10 text) 1048576) (digits_value 10 text) n refl is
one_length_le (_ ∷ _ ∷ _) n is = absurd (cc)

length_le_by : (t : Bool) (texts : List (List ℕ)) (n : ℕ) → (if t then Err Coded else one_length texts) ≡ Ok n → n ≤ 1048576
length_le_by true texts n is = absurd (cc)
length_le_by false texts n is = one_length_le texts n is

pub body_length-le : (head : RequestHead) (n : ℕ) → body_length head ≡ Ok n → n ≤ 1048576
unfolding body_length
body_length-le head n is =
    length_le_by (ltb 0 (length (values (codes "transfer-encoding") (lines_of head)))) (values (codes "content-length") (lines_of head)) n is

pub NeedsMore-length : (bytes : List ℕ) → NeedsMore bytes → length bytes ≤ 1056768
unfolding after_head
NeedsMore-length bytes (inl lacks) = omega (arith, lacks.short)
NeedsMore-length bytes (inr lacks) =
    let within = head_length-within bytes lacks.begins.size lacks.begins.ends in
    let tail = ap length lacks.begins.follows ∙ length-drop (empty_lines (reach bytes) + lacks.begins.size) bytes in
    omega (arith, within.0, tail, lacks.short, body_length-le lacks.head lacks.count lacks.stated)
