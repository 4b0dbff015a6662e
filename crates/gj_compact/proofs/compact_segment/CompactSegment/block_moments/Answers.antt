use Rattle.std.proofs.Common.{◌≡◌, ◌<◌, ◌+◌, ◌*◌, ◌-◌, ℕ, List, length, map, take, drop, min, ap, sym, subst, ◌∙◌, arith}
use Rattle.gj_base.specs.declared.kind.Kind.{Kind}
use Rattle.gj_base.specs.Ends.{ends}
use Rattle.gj_base.specs.Kinds.{all_kinds}
use Rattle.gj_base.specs.Numbered.{numbered, vertices_of, dated_ends}
use Rattle.gj_compact.specs.declared.edge.End.{End}
use Rattle.gj_compact.specs.declared.part.Part.{Part}
use Rattle.gj_compact.specs.Blocks.{block_of, moments_of, AreBounds}
use Rattle.gj_compact.specs.Compact.{Segment, shown_by, part_on}
use Rattle.gj_compact.specs.Lanes.{run_of}
use Rattle.gj_compact.proofs.CompactLemmas.{side_room, shown_degree, shown_run, shown_few, dated}
use Rattle.gj_compact.proofs.BlockLemmas.{block_part, block-dated, moments-dated}
use Rattle.gj_compact.proofs.compact_segment.CompactSegment.block_moments.Goals as goal

pub degree-degree-requires : goal.degree-degree-requires
degree-degree-requires c =
    let seen = ap (λ (s : Segment). length (vertices_of s.items c.args.side)) c.self.view_is in
    let below : c.args.v < length (vertices_of (shown_by c.self.inside).items c.args.side) = omega (arith, c.requires.vertex, seen) in
    omega (arith, (side_room c.self.inside c.args.side c.args.v c.self.invariant below).1, ap (λ (p : Part). length p.lane.runs) c.part_of-part.ensures)

pub overflow_mul-from : goal.overflow_mul-from
overflow_mul-from c =
    let seen = ap (λ (s : Segment). length (vertices_of s.items c.args.side)) c.self.view_is in
    let below : c.args.v < length (vertices_of (shown_by c.self.inside).items c.args.side) = omega (arith, c.requires.vertex, seen) in
    let run = run_of (part_on c.args.side c.self.inside.users c.self.inside.posts).lane.runs c.args.v in
    let long = ap (λ (p : Part). length (run_of p.lane.runs c.args.v)) c.part_of-part.ensures in
    omega (
      arith,
      c.requires.begun,
      ap (λ (s : Segment). length (ends (numbered s.items) c.args.side c.args.v all_kinds)) c.self.view_is,
      shown_degree c.self.inside c.args.side c.args.v c.self.invariant below,
      shown_few c.self.inside c.args.side c.args.v c.self.invariant below,
    )

pub overflow_add-from : goal.overflow_add-from
overflow_add-from c =
    let seen = ap (λ (s : Segment). length (vertices_of s.items c.args.side)) c.self.view_is in
    let below : c.args.v < length (vertices_of (shown_by c.self.inside).items c.args.side) = omega (arith, c.requires.vertex, seen) in
    let run = run_of (part_on c.args.side c.self.inside.users c.self.inside.posts).lane.runs c.args.v in
    let long = ap (λ (p : Part). length (run_of p.lane.runs c.args.v)) c.part_of-part.ensures in
    omega (
      arith,
      c.requires.begun,
      ap (λ (s : Segment). length (ends (numbered s.items) c.args.side c.args.v all_kinds)) c.self.view_is,
      shown_degree c.self.inside c.args.side c.args.v c.self.invariant below,
      shown_few c.self.inside c.args.side c.args.v c.self.invariant below,
    )

pub bounds-requires-clause-vertex : goal.bounds-requires-clause-vertex
bounds-requires-clause-vertex c =
    let seen = ap (λ (s : Segment). length (vertices_of s.items c.args.side)) c.self.view_is in
    let below : c.args.v < length (vertices_of (shown_by c.self.inside).items c.args.side) = omega (arith, c.requires.vertex, seen) in
    omega (arith, (side_room c.self.inside c.args.side c.args.v c.self.invariant below).1, ap (λ (p : Part). length p.lane.runs) c.part_of-part.ensures)

pub bounds-requires-clause-some : goal.bounds-requires-clause-some
bounds-requires-clause-some c =
    let seen = ap (λ (s : Segment). length (vertices_of s.items c.args.side)) c.self.view_is in
    let below : c.args.v < length (vertices_of (shown_by c.self.inside).items c.args.side) = omega (arith, c.requires.vertex, seen) in
    let run = run_of (part_on c.args.side c.self.inside.users c.self.inside.posts).lane.runs c.args.v in
    let long = ap (λ (p : Part). length (run_of p.lane.runs c.args.v)) c.part_of-part.ensures in
    omega (
      arith,
      c.requires.begun,
      ap (λ (s : Segment). length (ends (numbered s.items) c.args.side c.args.v all_kinds)) c.self.view_is,
      shown_degree c.self.inside c.args.side c.args.v c.self.invariant below,
      c.degree-degree.ensures,
      long,
      c.min.ensures,
    )

pub returns : goal.returns
returns c =
    let seen = ap (λ (s : Segment). length (vertices_of s.items c.args.side)) c.self.view_is in
    let below : c.args.v < length (vertices_of (shown_by c.self.inside).items c.args.side) = omega (arith, c.requires.vertex, seen) in
    let run = run_of (part_on c.args.side c.self.inside.users c.self.inside.posts).lane.runs c.args.v in
    let long = ap (λ (p : Part). length (run_of p.lane.runs c.args.v)) c.part_of-part.ensures in
    let part : run_of c.part_of-part.result.now.lane.runs c.args.v ≡ run = ap (λ (p : Part). run_of p.lane.runs c.args.v) c.part_of-part.ensures in
    let to : c.min.result ≡ min (length run) (64 * c.args.block + 64) = omega (arith, c.min.ensures, c.degree-degree.ensures, long) in
    let cut : take (c.min.result - 64 * c.args.block) (drop (64 * c.args.block) (run_of c.part_of-part.result.now.lane.runs c.args.v)) ≡ block_of c.args.block run =
    ap (λ (l : List End). take (c.min.result - 64 * c.args.block) (drop (64 * c.args.block) l)) part
    ∙ (ap (λ (n : ℕ). take (n - 64 * c.args.block) (drop (64 * c.args.block) run)) to ∙ block_part run (64 * c.args.block)) in
    let shown : map dated run ≡ dated_ends (numbered c.args.self.now.items) c.args.side c.args.v =
    shown_run c.self.inside c.args.side c.args.v c.self.invariant below ∙ ap (λ (s : Segment). dated_ends (numbered s.items) c.args.side c.args.v) c.self.view_is in
    let moments : map (λ (e : End). e.at) (block_of c.args.block run) ≡ moments_of (block_of c.args.block (dated_ends (numbered c.args.self.now.items) c.args.side c.args.v)) =
    sym (moments-dated (block_of c.args.block run)) ∙ (ap moments_of (sym (block-dated run c.args.block))
    ∙ ap (λ (l : List (ℕ × Kind × ℕ)). moments_of (block_of c.args.block l)) shown) in
    subst (λ (l : List ℕ). AreBounds l c.bounds.result.0 c.bounds.result.1) (ap (map (λ (e : End). e.at)) cut ∙ moments) c.bounds.ensures
