use Rattle.std.proofs.Common.{◌≡◌}
use Rattle.gj_compact.proofs.PullLemmas.{PulledTo}
use Rattle.gj_compact.proofs.lane.pull.Given as goal

abbrev pub invariant-loop-v : goal.invariant-loop-v
invariant-loop-v l = record {
  pulled : PulledTo l.fn.rows l.rows l.fn.cells.ends l.cells.ends l.v l.next;
  room : l.cells.room ≡ l.fn.cells.room;
}
