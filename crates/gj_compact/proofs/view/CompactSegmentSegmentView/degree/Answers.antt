use Rattle.std.proofs.Common.{◌<◌, length, ap, ◌∙◌, arith}
use Rattle.gj_base.specs.Ends.{ends}
use Rattle.gj_base.specs.Kinds.{all_kinds}
use Rattle.gj_base.specs.Numbered.{numbered, vertices_of}
use Rattle.gj_compact.specs.declared.part.Part.{Part}
use Rattle.gj_compact.specs.Compact.{Segment, shown_by}
use Rattle.gj_compact.specs.Lanes.{run_of}
use Rattle.gj_compact.proofs.CompactLemmas.{side_room, shown_degree, shown_few}
use Rattle.gj_compact.proofs.view.CompactSegmentSegmentView.degree.Goals as goal

pub degree-requires : goal.degree-requires
degree-requires c =
    let seen = ap (λ (s : Segment). length (vertices_of s.items c.args.side)) c.self.view_is in
    let below : c.args.v < length (vertices_of (shown_by c.self.inside).items c.args.side) = omega (arith, c.requires, seen) in
    omega (arith, (side_room c.self.inside c.args.side c.args.v c.self.invariant below).1, ap (λ (p : Part). length p.lane.runs) c.part_of.ensures)

pub returns-clause-exact : goal.returns-clause-exact
returns-clause-exact c =
    let seen = ap (λ (s : Segment). length (vertices_of s.items c.args.side)) c.self.view_is in
    let below : c.args.v < length (vertices_of (shown_by c.self.inside).items c.args.side) = omega (arith, c.requires, seen) in
    c.degree.ensures ∙ (ap (λ (p : Part). length (run_of p.lane.runs c.args.v)) c.part_of.ensures
    ∙ (shown_degree c.self.inside c.args.side c.args.v c.self.invariant below
    ∙ ap (λ (s : Segment). length (ends (numbered s.items) c.args.side c.args.v all_kinds)) c.self.view_is))

pub returns-clause-in_range : goal.returns-clause-in_range
returns-clause-in_range c =
    let seen = ap (λ (s : Segment). length (vertices_of s.items c.args.side)) c.self.view_is in
    let below : c.args.v < length (vertices_of (shown_by c.self.inside).items c.args.side) = omega (arith, c.requires, seen) in
    omega (arith, c.degree.ensures, ap (λ (p : Part). length (run_of p.lane.runs c.args.v)) c.part_of.ensures, shown_few c.self.inside c.args.side c.args.v c.self.invariant below)
