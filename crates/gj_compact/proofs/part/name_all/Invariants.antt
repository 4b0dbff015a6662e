use Rattle.std.proofs.Common.{◌≡◌, take}
use Rattle.gj_base.specs.Numbered.{vertices_of}
use Rattle.gj_compact.proofs.part.name_all.Given as goal

abbrev pub invariant-loop-v : goal.invariant-loop-v
invariant-loop-v g l = record {
  ids : l.ids.ids ≡ take l.v (vertices_of (g.V.SegmentView.listed l.from) l.side);
  room : l.ids.room ≡ l.fn.ids.room;
}
