use Rattle.std.proofs.Common.{length, ap, sym, ◌∙◌}
use Rattle.gj_base.specs.Numbered.{vertices_of}
use Rattle.gj_segment.specs.declared.half.Half.{Half}
use Rattle.gj_segment.specs.Segment.{Segment}
use Rattle.gj_segment.proofs.SegmentLemmas.{side_vertices}
use Rattle.gj_segment.proofs.view.PoolSegmentSegmentView.vertices.Goals as goal

pub returns-clause-exact : goal.returns-clause-exact
returns-clause-exact c =
    c.len.ensures.exact ∙ (ap (λ (h : Half). length h.ids.ids) c.half_of.ensures
    ∙ (ap length (sym (side_vertices c.self.inside c.args.side c.self.invariant))
    ∙ ap (λ (s : Segment). length (vertices_of s.items c.args.side)) c.self.view_is))
