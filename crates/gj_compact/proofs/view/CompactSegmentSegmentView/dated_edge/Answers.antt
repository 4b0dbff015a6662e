use Rattle.std.proofs.Common.{◌<◌, length, slice_get, ap, sym, ◌∙◌, arith}
use Rattle.gj_base.specs.Ends.{ends}
use Rattle.gj_base.specs.Kinds.{all_kinds}
use Rattle.gj_base.specs.Numbered.{numbered, vertices_of, dated_ends}
use Rattle.gj_compact.specs.declared.part.Part.{Part}
use Rattle.gj_compact.specs.Compact.{Segment, shown_by}
use Rattle.gj_compact.specs.Lanes.{run_of}
use Rattle.gj_compact.proofs.CompactLemmas.{side_room, shown_degree, shown_edge}
use Rattle.gj_compact.proofs.view.CompactSegmentSegmentView.dated_edge.Goals as goal

pub get-end-requires-clause-vertex : goal.get-end-requires-clause-vertex
get-end-requires-clause-vertex c =
    let seen = ap (λ (s : Segment). length (vertices_of s.items c.args.side)) c.self.view_is in
    let below : c.args.v < length (vertices_of (shown_by c.self.inside).items c.args.side) = omega (arith, c.requires.vertex, seen) in
    omega (arith, (side_room c.self.inside c.args.side c.args.v c.self.invariant below).1, ap (λ (p : Part). length p.lane.runs) c.part_of.ensures)

pub get-end-requires-clause-index : goal.get-end-requires-clause-index
get-end-requires-clause-index c =
    let seen = ap (λ (s : Segment). length (vertices_of s.items c.args.side)) c.self.view_is in
    let below : c.args.v < length (vertices_of (shown_by c.self.inside).items c.args.side) = omega (arith, c.requires.vertex, seen) in
    omega (
      arith,
      c.requires.index,
      ap (λ (s : Segment). length (ends (numbered s.items) c.args.side c.args.v all_kinds)) c.self.view_is,
      shown_degree c.self.inside c.args.side c.args.v c.self.invariant below,
      ap (λ (p : Part). length (run_of p.lane.runs c.args.v)) c.part_of.ensures,
    )

pub returns : goal.returns
returns c =
    let seen = ap (λ (s : Segment). length (vertices_of s.items c.args.side)) c.self.view_is in
    let below : c.args.v < length (vertices_of (shown_by c.self.inside).items c.args.side) = omega (arith, c.requires.vertex, seen) in
    let run = ap (λ (p : Part). slice_get (run_of p.lane.runs c.args.v) c.args.i) (sym c.part_of.ensures) ∙ c.get-end.ensures in
    ap (λ (s : Segment). slice_get (dated_ends (numbered s.items) c.args.side c.args.v) c.args.i) (sym c.self.view_is)
    ∙ shown_edge c.self.inside c.args.side c.args.v c.args.i c.get-end.result c.self.invariant below run
