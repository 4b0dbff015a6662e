use Rattle.std.proofs.Common.{◌<◌, length, get_or, slice_get, ap, sym, ◌∙◌, arith, Some}
use Rattle.gj_base.specs.Numbered.{vertices_of, numbered}
use Rattle.gj_base.specs.Ends.{ends}
use Rattle.gj_base.specs.Kinds.{all_kinds}
use Rattle.gj_pool.specs.Lists.{cells_of}
use Rattle.gj_segment.specs.declared.half.Half.{Half}
use Rattle.gj_segment.specs.Segment.{Segment, shown_by}
use Rattle.gj_segment.specs.Sides.{half_on}
use Rattle.gj_base.specs.Numbered.{dated_ends}
use Rattle.gj_segment.proofs.SegmentLemmas.{side_room, shown_degree, shown_place, shown_edge}
use Rattle.gj_segment.proofs.view.PoolSegmentSegmentView.dated_edge.Goals as goal

pub get-place-requires-clause-in_range : goal.get-place-requires-clause-in_range
get-place-requires-clause-in_range c =
    let seen = ap (λ (s : Segment). length (vertices_of s.items c.args.side)) c.self.view_is in
    let below : c.args.v < length (vertices_of (shown_by c.self.inside).items c.args.side) = omega (arith, c.requires.vertex, seen) in
    omega (arith, (side_room c.self.inside c.args.side c.args.v c.self.invariant below).1, ap (λ (h : Half). length h.places.lists) c.half_of.ensures)

pub get-place-requires-clause-held : goal.get-place-requires-clause-held
get-place-requires-clause-held c =
    let seen = ap (λ (s : Segment). length (vertices_of s.items c.args.side)) c.self.view_is in
    let below : c.args.v < length (vertices_of (shown_by c.self.inside).items c.args.side) = omega (arith, c.requires.vertex, seen) in
    omega (
      arith,
      c.requires.index,
      ap (λ (s : Segment). length (ends (numbered s.items) c.args.side c.args.v all_kinds)) c.self.view_is,
      shown_degree c.self.inside c.args.side c.args.v c.self.invariant below,
      ap (λ (h : Half). length (cells_of h.places.lists c.args.v)) c.half_of.ensures,
    )

held : (c : goal.After-get-place) → c.args.i < length (cells_of (half_on c.args.side c.self.inside.users c.self.inside.posts).places.lists c.args.v)
held c =
    let seen = ap (λ (s : Segment). length (vertices_of s.items c.args.side)) c.self.view_is in
    let below : c.args.v < length (vertices_of (shown_by c.self.inside).items c.args.side) = omega (arith, c.requires.vertex, seen) in
    omega (
      arith,
      c.requires.index,
      ap (λ (s : Segment). length (ends (numbered s.items) c.args.side c.args.v all_kinds)) c.self.view_is,
      shown_degree c.self.inside c.args.side c.args.v c.self.invariant below,
    )

pub index-requires : goal.index-requires
index-requires c =
    let seen = ap (λ (s : Segment). length (vertices_of s.items c.args.side)) c.self.view_is in
    let below : c.args.v < length (vertices_of (shown_by c.self.inside).items c.args.side) = omega (arith, c.requires.vertex, seen) in
    omega (
      arith,
      shown_place c.self.inside c.args.side c.args.v c.args.i c.self.invariant below (held c),
      c.get-place.ensures.exact,
      ap (λ (h : Half). get_or (cells_of h.places.lists c.args.v) c.args.i 0) c.half_of.ensures,
    )

pub returns : goal.returns
returns c =
    let seen = ap (λ (s : Segment). length (vertices_of s.items c.args.side)) c.self.view_is in
    let below : c.args.v < length (vertices_of (shown_by c.self.inside).items c.args.side) = omega (arith, c.requires.vertex, seen) in
    let held : c.args.i < length (cells_of (half_on c.args.side c.self.inside.users c.self.inside.posts).places.lists c.args.v) =
    omega (
      arith,
      c.requires.index,
      ap (λ (s : Segment). length (ends (numbered s.items) c.args.side c.args.v all_kinds)) c.self.view_is,
      shown_degree c.self.inside c.args.side c.args.v c.self.invariant below,
    )
    in
    let edge = shown_edge c.self.inside c.args.side c.args.v c.args.i c.get-place.result c.index.result.now c.self.invariant below held
    (c.get-place.ensures.exact ∙ ap (λ (h : Half). get_or (cells_of h.places.lists c.args.v) c.args.i 0) c.half_of.ensures) c.index.ensures in
    ap (λ (s : Segment). slice_get (dated_ends (numbered s.items) c.args.side c.args.v) c.args.i) (sym c.self.view_is) ∙ (edge ∙ ap Some (sym c.across.ensures))
