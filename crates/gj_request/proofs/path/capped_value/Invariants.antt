use Rattle.std.proofs.Common.{◌≡◌, min, take}
use Rattle.gj_request.specs.Requests.{digits_value}
use Rattle.gj_request.proofs.path.capped_value.Given as goal

-- the value of the digits so far, where it is not above the largest number
abbrev pub invariant-loop-digit : goal.invariant-loop-digit
invariant-loop-digit l = l.value ≡ min (digits_value (take l.digit-index l.text)) 18446744073709551615
