use Rattle.std.proofs.Common.{◌<◌, length, ap, ◌∙◌, arith}
use Rattle.gj_base.specs.Numbered.{vertices_of, numbered}
use Rattle.gj_base.specs.Ends.{ends}
use Rattle.gj_base.specs.Kinds.{all_kinds}
use Rattle.gj_pool.specs.Lists.{cells_of}
use Rattle.gj_segment.specs.declared.half.Half.{Half}
use Rattle.gj_segment.specs.Segment.{Segment, shown_by}
use Rattle.gj_segment.proofs.SegmentLemmas.{side_room, shown_degree}
use Rattle.gj_segment.proofs.view.PoolSegmentSegmentView.degree.Goals as goal

pub degree-requires : goal.degree-requires
degree-requires c =
    let seen = ap (λ (s : Segment). length (vertices_of s.items c.args.side)) c.self.view_is in
    let below : c.args.v < length (vertices_of (shown_by c.self.inside).items c.args.side) = omega (arith, c.requires, seen) in
    record { in_range = omega (arith, (side_room c.self.inside c.args.side c.args.v c.self.invariant below).1, ap (λ (h : Half). length h.places.lists) c.half_of.ensures) }

pub returns-clause-exact : goal.returns-clause-exact
returns-clause-exact c =
    let seen = ap (λ (s : Segment). length (vertices_of s.items c.args.side)) c.self.view_is in
    let below : c.args.v < length (vertices_of (shown_by c.self.inside).items c.args.side) = omega (arith, c.requires, seen) in
    c.degree.ensures.exact ∙ (ap (λ (h : Half). length (cells_of h.places.lists c.args.v)) c.half_of.ensures
    ∙ (shown_degree c.self.inside c.args.side c.args.v c.self.invariant below
    ∙ ap (λ (s : Segment). length (ends (numbered s.items) c.args.side c.args.v all_kinds)) c.self.view_is))
