-- The empty lines at the front, and where a head ends.
use Rattle.std.proofs.Common.{◌≡◌, ℕ, ◌+◌, ◌<◌, ◌≤◌, Bool, true, false, ◌&&◌, if◌then◌else◌, List, [], ◌∷◌, length, drop, Option, Some, None, refl, sym, ap, ◌∙◌, arith, eqb, eq-eqb, get_or}
use Rattle.std.proofs.lemmas.Bool.{ne_eqb}
use Rattle.std.specs.Option.{option_map}
use Rattle.std.proofs.lemmas.List.{drop_more, drop-drop}
use Rattle.gj_http.specs.Cut.{empty_line, empty_lines, close_of_head, head_end, head_length, reach}

by_tests : (F : ℕ → ℕ) (t u : Bool) → 0 < (if t then 1 else (if u then 2 else 0))
    → (if t then 1 + F 1 else (if u then 2 + F 2 else 0))
    ≡ (if t then 1 else (if u then 2 else 0)) + F (if t then 1 else (if u then 2 else 0))
by_tests F true u some = refl
by_tests F false true some = refl
by_tests F false false some = absurd (omega arith)

pub empty_lines_more : (bytes : List ℕ) → 0 < empty_line bytes
    → empty_lines bytes ≡ empty_line bytes + empty_lines (drop (empty_line bytes) bytes)
empty_lines_more [] some = absurd (omega arith)
empty_lines_more (a ∷ []) some = one (eqb a 10) some
  where
    one : (t : Bool) → 0 < (if t then 1 else 0)
        → (if t then 1 else 0) ≡ (if t then 1 else 0) + empty_lines (drop (if t then 1 else 0) (a ∷ []))
    one true some = refl
    one false some = absurd (omega arith)
empty_lines_more (a ∷ b ∷ bytes) some =
    by_tests (λ n. empty_lines (drop n (a ∷ b ∷ bytes))) (eqb a 10) (eqb a 13 && eqb b 10) some

none_by_tests : (x y n : ℕ) (t u : Bool) → (if t then 1 else (if u then 2 else 0)) ≡ n → n ≡ 0
    → (if t then 1 + x else (if u then 2 + y else 0)) ≡ n
none_by_tests x y n true u is none = absurd (omega arith)
none_by_tests x y n false true is none = absurd (omega arith)
none_by_tests x y n false false is none = is

pub empty_lines_none : (bytes : List ℕ) → empty_line bytes ≡ 0 → empty_lines bytes ≡ 0
empty_lines_none [] none = refl
empty_lines_none (a ∷ []) none = none
empty_lines_none (a ∷ b ∷ bytes) none =
    none_by_tests (empty_lines (b ∷ bytes)) (empty_lines bytes) 0 (eqb a 10) (eqb a 13 && eqb b 10) none refl

pub empty_line-le-length : (bytes : List ℕ) → empty_line bytes ≤ length bytes
empty_line-le-length [] = omega arith
empty_line-le-length (a ∷ []) = one (eqb a 10)
  where
    one : (t : Bool) → (if t then 1 else 0) ≤ length (a ∷ [])
    one true = omega arith
    one false = omega arith
empty_line-le-length (a ∷ b ∷ bytes) = two (eqb a 10) (eqb a 13 && eqb b 10)
  where
    two : (t u : Bool) → (if t then 1 else (if u then 2 else 0)) ≤ length (a ∷ b ∷ bytes)
    two true u = omega arith
    two false true = omega arith
    two false false = omega arith

-- the step of the loop over the empty lines
pub empty_lines_step : (bytes : List ℕ) (n line all : ℕ) → line ≡ empty_line (drop n bytes) → 0 < line
    → n + empty_lines (drop n bytes) ≡ all → (n + line) + empty_lines (drop (n + line) bytes) ≡ all
empty_lines_step bytes n line all is some so_far =
    let more = empty_lines_more (drop n bytes) (omega arith) in
    let place : drop line (drop n bytes) ≡ drop (n + line) bytes = drop-drop line n bytes in
    let here : empty_lines (drop n bytes) ≡ line + empty_lines (drop line (drop n bytes)) = rw is more in
    omega (arith, here, ap empty_lines place)

head_end_by : (b : ℕ) (bytes : List ℕ) (t : Bool) → eqb (close_of_head (b ∷ bytes)) 0 ≡ t
    → head_end (b ∷ bytes) ≡ (if t then option_map (λ n. 1 + n) (head_end bytes) else Some (close_of_head (b ∷ bytes)))
head_end_by b bytes t is = ap (λ (u : Bool). if u then option_map (λ n. 1 + n) (head_end bytes) else Some (close_of_head (b ∷ bytes))) is

pub head_end_found : (bytes : List ℕ) → 0 < close_of_head bytes → head_end bytes ≡ Some (close_of_head bytes)
head_end_found [] some = absurd (omega arith)
head_end_found (b ∷ bytes) some = head_end_by b bytes false (ne_eqb _ _ (λ none. absurd (omega arith)))

pub head_end_more : (b : ℕ) (bytes : List ℕ) → close_of_head (b ∷ bytes) ≡ 0
    → head_end (b ∷ bytes) ≡ option_map (λ n. 1 + n) (head_end bytes)
head_end_more b bytes none = head_end_by b bytes true (eq-eqb _ _ none)

option_map_add : (i : ℕ) (o : Option ℕ) → option_map (λ n. i + n) (option_map (λ n. 1 + n) o) ≡ option_map (λ n. (i + 1) + n) o
option_map_add i None = refl
option_map_add i (Some n) = ap Some (omega arith)

-- the step of the loop over the places where a head may end
pub head_end_step : (bytes : List ℕ) (i : ℕ) (all : Option ℕ) → i < length bytes → close_of_head (drop i bytes) ≡ 0
    → option_map (λ n. i + n) (head_end (drop i bytes)) ≡ all
    → option_map (λ n. (i + 1) + n) (head_end (drop (i + 1) bytes)) ≡ all
head_end_step bytes i all inside none so_far =
    let first = drop_more bytes i 0 inside in
    let here : close_of_head (get_or bytes i 0 ∷ drop (i + 1) bytes) ≡ 0 = sym (ap close_of_head first) ∙ none in
    sym (option_map_add i (head_end (drop (i + 1) bytes)))
    ∙ sym (ap (option_map (λ n. i + n)) (ap head_end first ∙ head_end_more (get_or bytes i 0) (drop (i + 1) bytes) here))
    ∙ so_far

pub empty_lines-le-length : (bytes : List ℕ) → empty_lines bytes ≤ length bytes
empty_lines-le-length [] = omega arith
empty_lines-le-length (a ∷ []) = one (eqb a 10)
  where
    one : (t : Bool) → (if t then 1 else 0) ≤ length (a ∷ [])
    one true = omega arith
    one false = omega arith
empty_lines-le-length (a ∷ b ∷ bytes) =
    two (eqb a 10) (eqb a 13 && eqb b 10) (empty_lines-le-length (b ∷ bytes)) (empty_lines-le-length bytes)
  where
    two : (t u : Bool) → empty_lines (b ∷ bytes) ≤ length (b ∷ bytes) → empty_lines bytes ≤ length bytes
        → (if t then 1 + empty_lines (b ∷ bytes) else (if u then 2 + empty_lines bytes else 0)) ≤ length (a ∷ b ∷ bytes)
    two true u x y = omega arith
    two false true x y = omega arith
    two false false x y = omega arith

-- the head's length, from the search in the reach
pub head_length_is : (bytes seen : List ℕ) (start : ℕ) (found : Option ℕ) → seen ≡ reach bytes → start ≡ empty_lines seen
    → head_end (drop start seen) ≡ found → head_length bytes ≡ found
unfolding head_length
head_length_is bytes seen start found same is ends =
    ap (λ (w : List ℕ). head_end (drop (empty_lines w) w)) (sym same)
    ∙ ap (λ (k : ℕ). head_end (drop k seen)) (sym is)
    ∙ ends
