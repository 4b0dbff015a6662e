use Rattle.std.proofs.Common.{◌≡◌, ◌<◌, ℕ, List, length, map, filter, count_by, slice_get, option_map, ap, sym, ◌∙◌, arith}
use Rattle.std.proofs.lemmas.Option.{slice_get-map}
use Rattle.gj_base.specs.declared.kind.Kind.{Kind}
use Rattle.gj_base.specs.Ends.{ends}
use Rattle.gj_base.specs.Numbered.{numbered, vertices_of, dated_ends, lets_end}
use Rattle.gj_base.proofs.MaskedLemmas.{count_ends, ends-dated, undated}
use Rattle.gj_compact.specs.declared.edge.End.{End}
use Rattle.gj_compact.specs.declared.part.Part.{Part}
use Rattle.gj_compact.specs.Blocks.{lets_through}
use Rattle.gj_compact.specs.Compact.{Segment, shown_by, part_on}
use Rattle.gj_compact.specs.Lanes.{run_of}
use Rattle.gj_compact.proofs.BlockLemmas.{count-dated, filter-dated}
use Rattle.gj_compact.proofs.CompactLemmas.{side_room, shown_run, dated}
use Rattle.gj_compact.proofs.view.CompactSegmentSegmentView.nth_of.Goals as goal

pub nth-end-requires-clause-vertex : goal.nth-end-requires-clause-vertex
nth-end-requires-clause-vertex c =
    let seen = ap (λ (s : Segment). length (vertices_of s.items c.args.side)) c.self.view_is in
    let below : c.args.v < length (vertices_of (shown_by c.self.inside).items c.args.side) = omega (arith, c.requires.vertex, seen) in
    omega (arith, (side_room c.self.inside c.args.side c.args.v c.self.invariant below).1, ap (λ (p : Part). length p.lane.runs) c.part_of.ensures)

pub nth-end-requires-clause-index : goal.nth-end-requires-clause-index
nth-end-requires-clause-index c =
    let seen = ap (λ (s : Segment). length (vertices_of s.items c.args.side)) c.self.view_is in
    let below : c.args.v < length (vertices_of (shown_by c.self.inside).items c.args.side) = omega (arith, c.requires.vertex, seen) in
    let run = run_of (part_on c.args.side c.self.inside.users c.self.inside.posts).lane.runs c.args.v in
    let part : run_of c.part_of.result.now.lane.runs c.args.v ≡ run = ap (λ (p : Part). run_of p.lane.runs c.args.v) c.part_of.ensures in
    let items = numbered c.args.self.now.items in
    let shown : map dated run ≡ dated_ends items c.args.side c.args.v =
    shown_run c.self.inside c.args.side c.args.v c.self.invariant below ∙ ap (λ (s : Segment). dated_ends (numbered s.items) c.args.side c.args.v) c.self.view_is in
    let count : count_by (lets_through c.args.mask) (run_of c.part_of.result.now.lane.runs c.args.v) ≡ length (ends items c.args.side c.args.v c.args.mask) =
    ap (count_by (lets_through c.args.mask)) part ∙ (sym (count-dated c.args.mask run) ∙ (ap (count_by (lets_end c.args.mask)) shown ∙ count_ends items c.args.side c.args.v c.args.mask)) in
    omega (arith, c.requires.index, count)

pub returns : goal.returns
returns c =
    let seen = ap (λ (s : Segment). length (vertices_of s.items c.args.side)) c.self.view_is in
    let below : c.args.v < length (vertices_of (shown_by c.self.inside).items c.args.side) = omega (arith, c.requires.vertex, seen) in
    let run = run_of (part_on c.args.side c.self.inside.users c.self.inside.posts).lane.runs c.args.v in
    let part : run_of c.part_of.result.now.lane.runs c.args.v ≡ run = ap (λ (p : Part). run_of p.lane.runs c.args.v) c.part_of.ensures in
    let items = numbered c.args.self.now.items in
    let shown : map dated run ≡ dated_ends items c.args.side c.args.v =
    shown_run c.self.inside c.args.side c.args.v c.self.invariant below ∙ ap (λ (s : Segment). dated_ends (numbered s.items) c.args.side c.args.v) c.self.view_is in
    let all : ends items c.args.side c.args.v c.args.mask ≡ map undated (map dated (filter (lets_through c.args.mask) run)) =
    ends-dated items c.args.side c.args.v c.args.mask
    ∙ ap (map undated) (ap (filter (lets_end c.args.mask)) (sym shown) ∙ filter-dated c.args.mask run) in
    ap (λ (l : List (ℕ × Kind)). slice_get l c.args.i) all
    ∙ (slice_get-map undated (map dated (filter (lets_through c.args.mask) run)) c.args.i
    ∙ (ap (option_map undated) (slice_get-map dated (filter (lets_through c.args.mask) run) c.args.i)
    ∙ ap (λ o. option_map undated (option_map dated o)) (ap (λ (l : List End). slice_get (filter (lets_through c.args.mask) l) c.args.i) (sym part) ∙ c.nth-end.ensures)))
