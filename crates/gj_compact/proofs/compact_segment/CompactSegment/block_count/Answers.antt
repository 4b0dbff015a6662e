use Rattle.std.proofs.Common.{◌≡◌, ◌<◌, ◌+◌, ◌*◌, ◌-◌, ℕ, List, length, map, take, drop, count_by, min, ap, sym, ◌∙◌, arith}
use Rattle.gj_base.specs.declared.kind.Kind.{Kind}
use Rattle.gj_base.specs.Ends.{ends}
use Rattle.gj_base.specs.Kinds.{all_kinds}
use Rattle.gj_base.specs.Numbered.{numbered, vertices_of, dated_ends, lets_end}
use Rattle.gj_compact.specs.declared.edge.End.{End}
use Rattle.gj_compact.specs.declared.part.Part.{Part}
use Rattle.gj_compact.specs.Blocks.{block_of, lets_through}
use Rattle.gj_compact.specs.Compact.{Segment, shown_by, part_on}
use Rattle.gj_compact.specs.Lanes.{run_of}
use Rattle.gj_compact.proofs.CompactLemmas.{side_room, shown_degree, shown_run, shown_few, dated}
use Rattle.gj_compact.proofs.BlockLemmas.{block_part, count-dated, block-dated}
use Rattle.gj_compact.proofs.compact_segment.CompactSegment.block_count.Goals as goal

pub degree-degree-requires : goal.degree-degree-requires
degree-degree-requires c =
    let seen = ap (λ (s : Segment). length (vertices_of s.items c.args.side)) c.self.view_is in
    let below : c.args.v < length (vertices_of (shown_by c.self.inside).items c.args.side) = omega (arith, c.requires.vertex, seen) in
    omega (arith, (side_room c.self.inside c.args.side c.args.v c.self.invariant below).1, ap (λ (p : Part). length p.lane.runs) c.part_of-part.ensures)

pub overflow_mul-from : goal.overflow_mul-from
overflow_mul-from c =
    let seen = ap (λ (s : Segment). length (vertices_of s.items c.args.side)) c.self.view_is in
    let below : c.args.v < length (vertices_of (shown_by c.self.inside).items c.args.side) = omega (arith, c.requires.vertex, seen) in
    let run = run_of (part_on c.args.side c.self.inside.users c.self.inside.posts).lane.runs c.args.v in
    let long = ap (λ (p : Part). length (run_of p.lane.runs c.args.v)) c.part_of-part.ensures in
    omega (
      arith,
      c.requires.begun,
      ap (λ (s : Segment). length (ends (numbered s.items) c.args.side c.args.v all_kinds)) c.self.view_is,
      shown_degree c.self.inside c.args.side c.args.v c.self.invariant below,
      shown_few c.self.inside c.args.side c.args.v c.self.invariant below,
    )

pub overflow_add-from : goal.overflow_add-from
overflow_add-from c =
    let seen = ap (λ (s : Segment). length (vertices_of s.items c.args.side)) c.self.view_is in
    let below : c.args.v < length (vertices_of (shown_by c.self.inside).items c.args.side) = omega (arith, c.requires.vertex, seen) in
    let run = run_of (part_on c.args.side c.self.inside.users c.self.inside.posts).lane.runs c.args.v in
    let long = ap (λ (p : Part). length (run_of p.lane.runs c.args.v)) c.part_of-part.ensures in
    omega (
      arith,
      c.requires.begun,
      ap (λ (s : Segment). length (ends (numbered s.items) c.args.side c.args.v all_kinds)) c.self.view_is,
      shown_degree c.self.inside c.args.side c.args.v c.self.invariant below,
      shown_few c.self.inside c.args.side c.args.v c.self.invariant below,
    )

pub count-requires-clause-vertex : goal.count-requires-clause-vertex
count-requires-clause-vertex c =
    let seen = ap (λ (s : Segment). length (vertices_of s.items c.args.side)) c.self.view_is in
    let below : c.args.v < length (vertices_of (shown_by c.self.inside).items c.args.side) = omega (arith, c.requires.vertex, seen) in
    omega (arith, (side_room c.self.inside c.args.side c.args.v c.self.invariant below).1, ap (λ (p : Part). length p.lane.runs) c.part_of-part.ensures)

pub count-requires-clause-order : goal.count-requires-clause-order
count-requires-clause-order c =
    let seen = ap (λ (s : Segment). length (vertices_of s.items c.args.side)) c.self.view_is in
    let below : c.args.v < length (vertices_of (shown_by c.self.inside).items c.args.side) = omega (arith, c.requires.vertex, seen) in
    let run = run_of (part_on c.args.side c.self.inside.users c.self.inside.posts).lane.runs c.args.v in
    let long = ap (λ (p : Part). length (run_of p.lane.runs c.args.v)) c.part_of-part.ensures in
    omega (
      arith,
      c.requires.begun,
      ap (λ (s : Segment). length (ends (numbered s.items) c.args.side c.args.v all_kinds)) c.self.view_is,
      shown_degree c.self.inside c.args.side c.args.v c.self.invariant below,
      c.degree-degree.ensures,
      long,
      c.min.ensures,
    )

pub returns-clause-exact : goal.returns-clause-exact
returns-clause-exact c =
    let seen = ap (λ (s : Segment). length (vertices_of s.items c.args.side)) c.self.view_is in
    let below : c.args.v < length (vertices_of (shown_by c.self.inside).items c.args.side) = omega (arith, c.requires.vertex, seen) in
    let run = run_of (part_on c.args.side c.self.inside.users c.self.inside.posts).lane.runs c.args.v in
    let long = ap (λ (p : Part). length (run_of p.lane.runs c.args.v)) c.part_of-part.ensures in
    let part : run_of c.part_of-part.result.now.lane.runs c.args.v ≡ run = ap (λ (p : Part). run_of p.lane.runs c.args.v) c.part_of-part.ensures in
    let to : c.min.result ≡ min (length run) (64 * c.args.block + 64) = omega (arith, c.min.ensures, c.degree-degree.ensures, long) in
    let cut : take (c.min.result - 64 * c.args.block) (drop (64 * c.args.block) (run_of c.part_of-part.result.now.lane.runs c.args.v)) ≡ block_of c.args.block run =
    ap (λ (l : List End). take (c.min.result - 64 * c.args.block) (drop (64 * c.args.block) l)) part
    ∙ (ap (λ (n : ℕ). take (n - 64 * c.args.block) (drop (64 * c.args.block) run)) to ∙ block_part run (64 * c.args.block)) in
    let shown : map dated run ≡ dated_ends (numbered c.args.self.now.items) c.args.side c.args.v =
    shown_run c.self.inside c.args.side c.args.v c.self.invariant below ∙ ap (λ (s : Segment). dated_ends (numbered s.items) c.args.side c.args.v) c.self.view_is in
    c.count.ensures.exact ∙ (ap (count_by (lets_through c.args.mask)) cut ∙ (sym (count-dated c.args.mask (block_of c.args.block run))
    ∙ (ap (count_by (lets_end c.args.mask)) (sym (block-dated run c.args.block))
    ∙ ap (λ (l : List (ℕ × Kind × ℕ)). count_by (lets_end c.args.mask) (block_of c.args.block l)) shown)))
