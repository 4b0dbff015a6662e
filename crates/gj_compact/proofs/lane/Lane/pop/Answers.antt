use Rattle.std.proofs.Common.{◌+◌, ◌-◌, ◌<◌, ℕ, List, length, arith, ap, ◌∙◌}
use Rattle.std.proofs.lemmas.List.{length-set}
use Rattle.gj_compact.specs.declared.lane.Row.{Row}
use Rattle.gj_compact.specs.Lanes.{Laned, all_rows, laned, shown_by, run_of, popped}
use Rattle.gj_compact.proofs.LaneLemmas.{lane_popped, laid_set}
use Rattle.gj_compact.proofs.RowLemmas.{all_set, all_is, all_below, row_there, below_run}
use Rattle.gj_compact.proofs.lane.Lane.pop.Goals as goal

pub index-row-requires : goal.index-row-requires
index-row-requires c =
    let rows = c.self.inside.rows.items in
    let n : ℕ = c.self.inside.vertices in
    let cells = c.self.inside.cells in
    let lane = c.args.self.now in
    let v : ℕ = c.args.v in
    let below : v < length rows = below_run rows n cells lane v c.self.invariant.0 c.self.view_is c.requires.vertex (c.requires.any) in
    omega (arith, below, c.self.inside.rows.ok)

pub overflow_add-row : goal.overflow_add-row
overflow_add-row c =
    let rows = c.self.inside.rows.items in
    let n : ℕ = c.self.inside.vertices in
    let cells = c.self.inside.cells in
    let lane = c.args.self.now in
    let v : ℕ = c.args.v in
    let below : v < length rows = below_run rows n cells lane v c.self.invariant.0 c.self.view_is c.requires.vertex (c.requires.any) in
    let row : Row = c.index-row.result.now in
    let found = row_there rows n cells lane v row c.self.invariant.0 c.self.view_is c.requires.vertex below c.index-row.ensures in
    omega (arith, found.within, found.small, found.len, c.requires.any)

pub overflow_sub-row : goal.overflow_sub-row
overflow_sub-row c =
    let rows = c.self.inside.rows.items in
    let n : ℕ = c.self.inside.vertices in
    let cells = c.self.inside.cells in
    let lane = c.args.self.now in
    let v : ℕ = c.args.v in
    let below : v < length rows = below_run rows n cells lane v c.self.invariant.0 c.self.view_is c.requires.vertex (c.requires.any) in
    let row : Row = c.index-row.result.now in
    let found = row_there rows n cells lane v row c.self.invariant.0 c.self.view_is c.requires.vertex below c.index-row.ensures in
    omega (arith, found.len, c.requires.any)

pub index_mut-requires : goal.index_mut-requires
index_mut-requires c =
    let rows = c.self.inside.rows.items in
    let n : ℕ = c.self.inside.vertices in
    let cells = c.self.inside.cells in
    let lane = c.args.self.now in
    let v : ℕ = c.args.v in
    let below : v < length rows = below_run rows n cells lane v c.self.invariant.0 c.self.view_is c.requires.vertex (c.requires.any) in
    omega (arith, below, c.self.inside.rows.ok)

pub invariant_of-self : goal.invariant_of-self
invariant_of-self c =
    let rows = c.self.inside.rows.items in
    let n : ℕ = c.self.inside.vertices in
    let cells = c.self.inside.cells in
    let lane = c.args.self.now in
    let v : ℕ = c.args.v in
    let below : v < length rows = below_run rows n cells lane v c.self.invariant.0 c.self.view_is c.requires.vertex (c.requires.any) in
    let row : Row = c.index-row.result.now in
    let found = row_there rows n cells lane v row c.self.invariant.0 c.self.view_is c.requires.vertex below c.index-row.ensures in
    let is_lane = c.self.invariant.0 in (
      record {
        small = is_lane.small;
        fits = is_lane.fits;
        laid = laid_set rows (length cells.ends) v row _ is_lane.laid below c.index-row.ensures (omega arith) (omega (arith, found.len, c.requires.any));
        few = omega (arith, is_lane.few, length-set rows v (record { start = row.start + 1; len = row.len - 1; spare = row.spare; fresh = row.fresh }));
      },
      c.self.invariant.1,
    )

pub returns : goal.returns
returns c =
    let rows = c.self.inside.rows.items in
    let n : ℕ = c.self.inside.vertices in
    let cells = c.self.inside.cells in
    let lane = c.args.self.now in
    let v : ℕ = c.args.v in
    let below : v < length rows = below_run rows n cells lane v c.self.invariant.0 c.self.view_is c.requires.vertex (c.requires.any) in
    let row : Row = c.index-row.result.now in
    let found = row_there rows n cells lane v row c.self.invariant.0 c.self.view_is c.requires.vertex below c.index-row.ensures in
    let is_lane = c.self.invariant.0 in
    let size : ℕ = length cells.ends in
    let any : 0 < length (run_of (shown_by rows n cells).runs v) = omega (arith, c.requires.any, ap (λ (l : Laned). length (run_of l.runs v)) c.self.view_is) in
    ap (λ (l : List Row). laned l cells.ends cells.room) (all_set rows n size v _ below)
    ∙ (lane_popped (all_rows rows n size) cells.ends cells.room v row (all_below rows n size v is_lane.few below) (all_is rows n size v row below c.index-row.ensures) any
    ∙ ap (λ (l : Laned). popped l v) c.self.view_is)
