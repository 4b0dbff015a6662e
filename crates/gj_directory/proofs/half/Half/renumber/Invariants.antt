use Rattle.std.proofs.Common.{◌≡◌, deque_capacity}
use Rattle.gj_directory.proofs.NumberLemmas.{RenumberedTo}
use Rattle.gj_directory.proofs.half.Half.renumber.Given as goal

abbrev pub invariant-loop-i : goal.invariant-loop-i
invariant-loop-i l = record {
  done : RenumberedTo l.self.names l.self.lane l.fn.self.names.ids l.side l.edges.items l.fn.edges.items l.i;
  names : l.self.names.room ≡ l.fn.self.names.room;
  size : l.self.lane.room ≡ l.fn.self.lane.room;
  reserved : deque_capacity l.edges ≡ deque_capacity l.fn.edges;
}
