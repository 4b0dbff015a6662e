use Rattle.std.proofs.Common.{◌≡◌, ◌≤◌, map, take, vec_capacity}
use Rattle.gj_base.specs.Numbered.{numbered}
use Rattle.gj_compact.specs.Turns.{plain}
use Rattle.gj_compact.proofs.compact_segment.copy_edges.Given as goal

abbrev pub invariant-loop-i : goal.invariant-loop-i
invariant-loop-i g l = record {
  items : map plain l.edges.items ≡ take l.i (numbered (g.V.SegmentView.listed l.from));
  capacity : vec_capacity l.fn.edges ≤ vec_capacity l.edges;
}
