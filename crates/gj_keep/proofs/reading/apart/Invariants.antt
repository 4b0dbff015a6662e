use Rattle.std.proofs.Common.{◌≡◌, ◌+◌, drop}
use Rattle.gj_keep.specs.Rows.{first_apart}
use Rattle.gj_keep.proofs.reading.apart.Given as goal

abbrev pub invariant-loop-i : goal.invariant-loop-i
invariant-loop-i l = (l.place ≡ l.fn.first + l.i) × (first_apart l.fn.first 0 l.rows ≡ first_apart l.place l.i (drop l.i l.rows))
