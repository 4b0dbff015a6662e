use Rattle.std.proofs.Common.{◌≡◌, ◌+◌, drop}
use Rattle.std.specs.Option.{option_map}
use Rattle.gj_http.specs.Cut.{head_end}
use Rattle.gj_http.proofs.front.head_end_in.Given as goal

abbrev pub invariant-loop-i : goal.invariant-loop-i
invariant-loop-i l = option_map (λ n. l.i + n) (head_end (drop l.i l.bytes)) ≡ head_end l.bytes
