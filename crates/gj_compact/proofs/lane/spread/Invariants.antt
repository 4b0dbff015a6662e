use Rattle.std.proofs.Common.{◌≡◌, ◌≤◌, length}
use Rattle.gj_compact.proofs.OpenLemmas.{SpreadFrom}
use Rattle.gj_compact.proofs.lane.spread.Given as goal

abbrev pub invariant-loop-v : goal.invariant-loop-v
invariant-loop-v l = record {
  spread : SpreadFrom l.fn.rows l.rows l.fn.cells.ends l.cells.ends l.v l.next;
  room : l.cells.room ≡ l.fn.cells.room;
  most : l.v ≤ length l.fn.rows;
}

abbrev pub decreases-loop-v : goal.decreases-loop-v
decreases-loop-v l = l.v
