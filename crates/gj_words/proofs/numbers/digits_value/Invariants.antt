use Rattle.std.proofs.Common.{◌≡◌, min, take}
use Rattle.gj_words.specs.Values.{digits_value}
use Rattle.gj_words.proofs.numbers.digits_value.Given as goal

-- the value of the digits so far, where it is not above the largest number
abbrev pub invariant-loop-digit : goal.invariant-loop-digit
invariant-loop-digit l = l.value ≡ min (digits_value (take l.digit-index l.text)) 340282366920938463463374607431768211455
