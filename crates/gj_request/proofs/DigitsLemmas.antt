-- Digits alone are read as their number.
use Rattle.std.proofs.Common.{◌≡◌, ℕ, ◌+◌, ◌-◌, ◌*◌, ◌^◌, ◌<◌, true, false, List, [], ◌∷◌, ◌++◌, length, get_or, fold, Some, refl, sym, ap, ◌∙◌, arith, append-nil, lt-ltb, ne_eqb, true≢false}
use Rattle.std.specs.Prelude.{◌==◌, not}
use Rattle.std.specs.Char.{digit_value, is_ascii_digit}
use Rattle.std.specs.List.{list_all}
use Rattle.std.specs.Str.Parse as std
use Rattle.std.proofs.lemmas.Bool.Decides.{nat_tests}
use Rattle.std.specs.Float.Numeral.{Parts, scan_numeral, IsWellFormed}
use Rattle.std.proofs.lemmas.Float.Parse.{scan_numeral-text_of}
use Rattle.serde_json.specs.Data.{unsigned}
use Rattle.serde_json.specs.Read.{number_of}
use Rattle.gj_request.specs.PlainItems.{Spells}
use Rattle.gj_request.proofs.SeedLemmas.{both}

digit : (c : ℕ) → is_ascii_digit c ≡ true → (digit_value c < 10) × (digit_value c ≡ c - 48) × ((c ≡ 45) → ⊥)
digit c is = grind (arith, nat_tests)

all_digits : (text : List ℕ) → list_all is_ascii_digit text ≡ true → std.AllDigits 10 text
all_digits [] h = tt
all_digits (c ∷ text) h = let parts = both _ _ h in ((digit c parts.0).0, all_digits text parts.1)

same_value : (text : List ℕ) (n : ℕ) → list_all is_ascii_digit text ≡ true → fold (λ n digit. 10 * n + (digit - 48)) n text ≡ std.digits_value_after 10 n text
same_value [] n h = refl
same_value (c ∷ text) n h =
    let parts = both _ _ h in
    let here = (digit c parts.0).1 in
    let step : 10 * n + (c - 48) ≡ n * 10 + digit_value c = omega arith in
    same_value text _ parts.1 ∙ ap (λ m. std.digits_value_after 10 m text) step

no_minus : (text : List ℕ) → list_all is_ascii_digit text ≡ true → get_or text 0 0 ≡ 45 → ⊥
no_minus [] h e = omega arith
no_minus (c ∷ text) h e = (digit c (both _ _ h).0).2 e

abbrev parts_of : List ℕ → Parts
parts_of ds = record { whole = ds; point = false; fraction = []; exponent_negative = false; exponent = []; len = length (ds ++ []) }

some : (text : List ℕ) → not (length text == 0) ≡ true → 0 < length text
some [] e = absurd (true≢false (sym e))
some (c ∷ text) e = omega arith

pub number_of-digits : (text : List ℕ) (n : ℕ) → Spells text n → number_of text ≡ Some (unsigned n)
unfolding number_of
number_of-digits text n h =
    let parts = both _ _ h.0 in
    let all = parts.1 in
    let more = some text parts.0 in
    let formed : IsWellFormed (parts_of text) = record { whole_digits = all_digits text all; fraction_digits = tt; exponent_digits = tt; no_point = λ _. refl; no_exponent = λ _. refl; len_is = refl } in
    let value : std.digits_value 10 text ≡ n = sym (same_value text 0 all) ∙ h.1 in
    let fits : n < 2 ^ 64 = omega (arith, h.2) in
    let whole : text ++ [] ≡ text = append-nil text in
    let scanned : scan_numeral text ≡ parts_of text = ap scan_numeral (sym whole) ∙ scan_numeral-text_of (parts_of text) formed in
    rw (ne_eqb (get_or text 0 0) 45 (no_minus text all), scanned, lt-ltb _ _ more, whole, value, lt-ltb _ _ fits)
