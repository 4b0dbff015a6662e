use Rattle.std.proofs.Common.{◌<◌, ℕ, List, length, ap, sym, ◌∙◌, arith}
use Rattle.std.specs.List.{slice_index}
use Rattle.gj_base.specs.Numbered.{vertices_of}
use Rattle.gj_segment.specs.declared.half.Half.{Half}
use Rattle.gj_segment.specs.Segment.{Segment, shown_by}
use Rattle.gj_segment.proofs.SegmentLemmas.{side_vertices, side_room}
use Rattle.gj_segment.proofs.view.PoolSegmentSegmentView.id_of.Goals as goal

pub id_of-requires : goal.id_of-requires
id_of-requires c =
    let seen = ap (λ (s : Segment). length (vertices_of s.items c.args.side)) c.self.view_is in
    let below : c.args.v < length (vertices_of (shown_by c.self.inside).items c.args.side) = omega (arith, c.requires, seen) in
    omega (arith, (side_room c.self.inside c.args.side c.args.v c.self.invariant below).0, ap (λ (h : Half). length h.ids.ids) c.half_of.ensures)

pub returns : goal.returns
returns c =
    c.id_of.ensures ∙ (ap (λ (h : Half). slice_index h.ids.ids c.args.v) c.half_of.ensures
    ∙ (ap (λ (l : List ℕ). slice_index l c.args.v) (sym (side_vertices c.self.inside c.args.side c.self.invariant))
    ∙ ap (λ (s : Segment). slice_index (vertices_of s.items c.args.side) c.args.v) c.self.view_is))
