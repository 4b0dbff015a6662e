use Rattle.std.proofs.Common.{◌≡◌, ◌+◌, ◌-◌, ◌<◌, ◌≤◌, ℕ, List, ◌++◌, length, get_or, set, replicate, subst, arith, ap, sym, ◌∙◌}
use Rattle.std.proofs.lemmas.List.{length-set, length-append, length-replicate}
use Rattle.gj_compact.specs.declared.lane.Row.{Row}
use Rattle.gj_compact.specs.Lanes.{Laned, AreLaid, all_rows, laned, shown_by, noted, unused_row}
use Rattle.gj_compact.proofs.LaneLemmas.{lane_noted, laid_set}
use Rattle.gj_compact.proofs.RowLemmas.{all_set, all_is, all_below, all_more, laid_behind, below_all}
use Rattle.gj_compact.proofs.lane.Lane.note.Goals as goal

pub invariant_of-self : goal.invariant_of-self
invariant_of-self c =
    let rows = c.self.inside.rows.items in
    let n : ℕ = c.self.inside.vertices in
    let cells = c.self.inside.cells in
    let lane = c.args.self.now in
    let v : ℕ = c.args.v in
    let is_lane = c.self.invariant.0 in
    let size : ℕ = length cells.ends in
    let known : v < n = below_all rows n cells lane v is_lane c.self.view_is c.requires.vertex in
    let k : ℕ = v + 1 - length rows in
    let more : List Row = rows ++ replicate k (unused_row size) in
    let fits : length rows + k ≤ n = omega (arith, known, is_lane.few) in
    let long : length more ≡ length rows + k = omega (arith, length-append rows (replicate k (unused_row size)), length-replicate k (unused_row size)) in
    let below : v < length more = omega (arith, long) in
    let reached : c.reach.new.rows.items ≡ more =
    c.reach.ensures.rows ∙ ap (λ (r : Row). rows ++ replicate k r) (c.unused.ensures ∙ ap unused_row c.len-size.ensures) in
    let row : Row = c.index_mut.result.now in
    let new : Row = record { start = row.start; len = row.len; spare = row.spare; fresh = row.fresh + 1 } in
    let is : row ≡ get_or more v row = c.index_mut.ensures.value ∙ ap (λ (l : List Row). get_or l v row) reached in (
      record {
        small = is_lane.small;
        fits = is_lane.fits;
        laid = subst (λ (l : List Row). AreLaid (set l v new) size) (sym reached) (laid_set more size v row new (laid_behind rows size k is_lane.laid) below is (omega arith) (omega arith));
        few = omega (arith, length-set c.reach.new.rows.items v new, ap length reached, long, fits);
      },
      omega (arith, c.self.invariant.1, c.reach.ensures.capacity),
    )

pub returns : goal.returns
returns c =
    let rows = c.self.inside.rows.items in
    let n : ℕ = c.self.inside.vertices in
    let cells = c.self.inside.cells in
    let lane = c.args.self.now in
    let v : ℕ = c.args.v in
    let is_lane = c.self.invariant.0 in
    let size : ℕ = length cells.ends in
    let known : v < n = below_all rows n cells lane v is_lane c.self.view_is c.requires.vertex in
    let k : ℕ = v + 1 - length rows in
    let more : List Row = rows ++ replicate k (unused_row size) in
    let fits : length rows + k ≤ n = omega (arith, known, is_lane.few) in
    let long : length more ≡ length rows + k = omega (arith, length-append rows (replicate k (unused_row size)), length-replicate k (unused_row size)) in
    let below : v < length more = omega (arith, long) in
    let reached : c.reach.new.rows.items ≡ more =
    c.reach.ensures.rows ∙ ap (λ (r : Row). rows ++ replicate k r) (c.unused.ensures ∙ ap unused_row c.len-size.ensures) in
    let row : Row = c.index_mut.result.now in
    let new : Row = record { start = row.start; len = row.len; spare = row.spare; fresh = row.fresh + 1 } in
    let is : row ≡ get_or more v row = c.index_mut.ensures.value ∙ ap (λ (l : List Row). get_or l v row) reached in
    ap (λ (l : List Row). shown_by (set l v new) n cells) reached
    ∙ (ap (λ (l : List Row). laned l cells.ends cells.room) (all_set more n size v new below ∙ ap (λ (l : List Row). set l v new) (all_more rows n size k fits))
    ∙ (lane_noted (all_rows rows n size) cells.ends cells.room v row (omega (arith, all_below more n size v (omega (arith, long, fits)) below, ap length (all_more rows n size k fits)))
    (all_is more n size v row below is ∙ ap (λ (l : List Row). get_or l v row) (all_more rows n size k fits))
    ∙ ap (λ (l : Laned). noted l v) c.self.view_is))
