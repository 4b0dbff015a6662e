-- The values of options. Own: a number is one to twenty ASCII digits, leading zeros allowed, and in range.
use Rattle.std.specs.Prelude.{ℕ, ◌+◌, ◌-◌, ◌*◌, ◌&&◌, Bool, [], ◌∷◌, length, fold, nat_le, Option, Some, None, if◌then◌else◌}
use Rattle.std.specs.Char.{is_ascii_digit}
use Rattle.std.specs.List.{list_all}
use Rattle.clap.specs.Walk.{Text}
use Rattle.gj_words.specs.declared.numbers.Range.{Range}

-- one to twenty ASCII digits
abbrev pub has_digits : Text → Bool
has_digits text = (nat_le 1 (length text) && nat_le (length text) 20) && list_all is_ascii_digit text

-- the number that digits spell
abbrev pub digits_value : Text → ℕ
digits_value text = fold (λ n digit. 10 * n + (digit - 48)) 0 text

-- the number that a text spells, where it is in range
abbrev pub number_of : Range → Text → Option ℕ
number_of range text =
    if has_digits text && (nat_le range.least (digits_value text) && nat_le (digits_value text) range.most)
    then Some (digits_value text) else None

-- the number of an option that is given so, or its default where it isn't given
abbrev pub number_in : Range → ℕ → Option Text → Option ℕ
number_in range default None = Some default
number_in range default (Some text) = number_of range text

-- the path of an option that is given so: it is not empty
abbrev pub path_in : Option Text → Option (Option Text)
path_in None = Some None
path_in (Some []) = None
path_in (Some (x ∷ text)) = Some (Some (x ∷ text))
