use Rattle.std.proofs.Common.{◌≡◌, ◌<◌, ◌-◌, length, map, take, drop, count_by, ap, sym, ◌∙◌, arith}
use Rattle.gj_base.specs.Numbered.{numbered, vertices_of, dated_ends, lets_end}
use Rattle.gj_compact.specs.declared.part.Part.{Part}
use Rattle.gj_compact.specs.Blocks.{lets_through}
use Rattle.gj_compact.specs.Compact.{Segment, shown_by, part_on}
use Rattle.gj_compact.specs.Lanes.{run_of}
use Rattle.gj_compact.proofs.CompactLemmas.{side_room, shown_run, shown_few, dated}
use Rattle.gj_base.proofs.MaskedLemmas.{count_ends}
use Rattle.std.proofs.lemmas.List.{take_all}
use Rattle.gj_compact.proofs.BlockLemmas.{count-dated}
use Rattle.gj_compact.proofs.view.CompactSegmentSegmentView.count_of.Goals as goal

pub degree-degree-requires : goal.degree-degree-requires
degree-degree-requires c =
    let seen = ap (λ (s : Segment). length (vertices_of s.items c.args.side)) c.self.view_is in
    let below : c.args.v < length (vertices_of (shown_by c.self.inside).items c.args.side) = omega (arith, c.requires, seen) in
    omega (arith, (side_room c.self.inside c.args.side c.args.v c.self.invariant below).1, ap (λ (p : Part). length p.lane.runs) c.part_of-part.ensures)

pub count-requires-clause-vertex : goal.count-requires-clause-vertex
count-requires-clause-vertex c =
    let seen = ap (λ (s : Segment). length (vertices_of s.items c.args.side)) c.self.view_is in
    let below : c.args.v < length (vertices_of (shown_by c.self.inside).items c.args.side) = omega (arith, c.requires, seen) in
    omega (arith, (side_room c.self.inside c.args.side c.args.v c.self.invariant below).1, ap (λ (p : Part). length p.lane.runs) c.part_of-part.ensures)

pub returns-clause-exact : goal.returns-clause-exact
returns-clause-exact c =
    let seen = ap (λ (s : Segment). length (vertices_of s.items c.args.side)) c.self.view_is in
    let below : c.args.v < length (vertices_of (shown_by c.self.inside).items c.args.side) = omega (arith, c.requires, seen) in
    let run = run_of (part_on c.args.side c.self.inside.users c.self.inside.posts).lane.runs c.args.v in
    let long = ap (λ (p : Part). length (run_of p.lane.runs c.args.v)) c.part_of-part.ensures in
    let part : run_of c.part_of-part.result.now.lane.runs c.args.v ≡ run = ap (λ (p : Part). run_of p.lane.runs c.args.v) c.part_of-part.ensures in
    let cut : take (c.degree-degree.result - 0) (drop 0 (run_of c.part_of-part.result.now.lane.runs c.args.v)) ≡ run =
    take_all (c.degree-degree.result - 0) (run_of c.part_of-part.result.now.lane.runs c.args.v) (omega (arith, c.degree-degree.ensures)) ∙ part in
    let shown : map dated run ≡ dated_ends (numbered c.args.self.now.items) c.args.side c.args.v =
    shown_run c.self.inside c.args.side c.args.v c.self.invariant below ∙ ap (λ (s : Segment). dated_ends (numbered s.items) c.args.side c.args.v) c.self.view_is in
    c.count.ensures.exact ∙ (ap (count_by (lets_through c.args.mask)) cut ∙ (sym (count-dated c.args.mask run)
    ∙ (ap (count_by (lets_end c.args.mask)) shown ∙ count_ends (numbered c.args.self.now.items) c.args.side c.args.v c.args.mask)))

pub returns-clause-in_range : goal.returns-clause-in_range
returns-clause-in_range c =
    let seen = ap (λ (s : Segment). length (vertices_of s.items c.args.side)) c.self.view_is in
    let below : c.args.v < length (vertices_of (shown_by c.self.inside).items c.args.side) = omega (arith, c.requires, seen) in
    let run = run_of (part_on c.args.side c.self.inside.users c.self.inside.posts).lane.runs c.args.v in
    let long = ap (λ (p : Part). length (run_of p.lane.runs c.args.v)) c.part_of-part.ensures in
    omega (arith, c.count.ensures.in_range, c.degree-degree.ensures, long, shown_few c.self.inside c.args.side c.args.v c.self.invariant below)
