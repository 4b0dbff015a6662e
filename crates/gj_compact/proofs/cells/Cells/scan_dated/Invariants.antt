use Rattle.std.proofs.Common.{◌≡◌, ◌-◌, count_by, take, drop}
use Rattle.gj_compact.specs.Blocks.{lets_through}
use Rattle.gj_compact.proofs.cells.Cells.scan_dated.Given as goal

abbrev pub invariant-loop-i : goal.invariant-loop-i
invariant-loop-i l = l.count ≡ count_by (lets_through l.mask) (take (l.i - l.from) (drop l.from l.self.ends))
