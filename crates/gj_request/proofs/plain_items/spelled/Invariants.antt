use Rattle.std.proofs.Common.{◌≡◌, true, take}
use Rattle.std.specs.Char.{is_ascii_digit}
use Rattle.std.specs.List.{list_all}
use Rattle.gj_request.specs.Requests.{digits_value}
use Rattle.gj_request.proofs.plain_items.spelled.Given as goal

-- the digits so far and their value
abbrev pub invariant-loop-digit : goal.invariant-loop-digit
invariant-loop-digit l = record { digits : list_all is_ascii_digit (take l.digit-index l.text) ≡ true; value : l.value ≡ digits_value (take l.digit-index l.text) }
