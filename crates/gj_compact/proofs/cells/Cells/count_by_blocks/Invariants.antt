use Rattle.std.proofs.Common.{◌≡◌, ◌≤◌, ◌-◌, count_by, take, drop}
use Rattle.gj_compact.specs.Blocks.{lets_through}
use Rattle.gj_compact.proofs.cells.Cells.count_by_blocks.Given as goal

abbrev pub invariant-loop-at : goal.invariant-loop-at
invariant-loop-at l = record {
  from : l.from ≤ l.at;
  to : l.at ≤ l.to;
  few : l.count ≤ l.at - l.from;
  counted : l.count ≡ count_by (lets_through l.mask) (take (l.at - l.from) (drop l.from l.self.ends));
}

abbrev pub decreases-loop-at : goal.decreases-loop-at
decreases-loop-at l = l.to - l.at
