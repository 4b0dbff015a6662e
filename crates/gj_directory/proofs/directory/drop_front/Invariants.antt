use Rattle.std.proofs.Common.{◌≡◌, drop, deque_capacity}
use Rattle.gj_directory.specs.Counting.{AreCounts}
use Rattle.gj_directory.proofs.directory.drop_front.Given as goal

abbrev pub invariant-loop-i : goal.invariant-loop-i
invariant-loop-i l = record {
  items : l.edges.items ≡ drop l._i l.fn.edges.items;
  counted : AreCounts l.counts l.edges.items;
  capacity : deque_capacity l.edges ≡ deque_capacity l.fn.edges;
}
