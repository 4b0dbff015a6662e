use Rattle.std.proofs.Common.{◌≡◌, ◌+◌, ◌-◌, ◌<◌, ℕ, List, length, get_or, set, subst, arith, ap, sym, ◌∙◌}
use Rattle.std.proofs.lemmas.List.{length-set}
use Rattle.gj_compact.specs.declared.lane.Row.{Row}
use Rattle.gj_compact.specs.Cells.{Celled}
use Rattle.gj_compact.specs.Lanes.{Laned, AreLaid, all_rows, laned, shown_by, pushed}
use Rattle.gj_compact.proofs.LaneLemmas.{lane_pushed, laid_set}
use Rattle.gj_compact.proofs.RowLemmas.{all_set, all_is, all_below, laid_behind, row_there, below_spare}
use Rattle.gj_compact.proofs.lane.Lane.push.Goals as goal

pub index-row-requires : goal.index-row-requires
index-row-requires c =
    let rows = c.self.inside.rows.items in
    let n : ℕ = c.self.inside.vertices in
    let cells = c.self.inside.cells in
    let lane = c.args.self.now in
    let v : ℕ = c.args.v in
    let below : v < length rows = below_spare rows n cells lane v c.self.invariant.0 c.self.view_is c.requires.vertex c.requires.room in
    omega (arith, below, c.self.inside.rows.ok)

pub overflow_add-row : goal.overflow_add-row
overflow_add-row c =
    let rows = c.self.inside.rows.items in
    let n : ℕ = c.self.inside.vertices in
    let cells = c.self.inside.cells in
    let lane = c.args.self.now in
    let v : ℕ = c.args.v in
    let below : v < length rows = below_spare rows n cells lane v c.self.invariant.0 c.self.view_is c.requires.vertex c.requires.room in
    let row : Row = c.index-row.result.now in
    let found = row_there rows n cells lane v row c.self.invariant.0 c.self.view_is c.requires.vertex below c.index-row.ensures in
    omega (arith, found.within, found.small)

pub set-requires : goal.set-requires
set-requires c =
    let rows = c.self.inside.rows.items in
    let n : ℕ = c.self.inside.vertices in
    let cells = c.self.inside.cells in
    let lane = c.args.self.now in
    let v : ℕ = c.args.v in
    let below : v < length rows = below_spare rows n cells lane v c.self.invariant.0 c.self.view_is c.requires.vertex c.requires.room in
    let row : Row = c.index-row.result.now in
    let found = row_there rows n cells lane v row c.self.invariant.0 c.self.view_is c.requires.vertex below c.index-row.ensures in
    omega (arith, found.within, found.spare, c.requires.room)

pub overflow_add-row-2 : goal.overflow_add-row-2
overflow_add-row-2 c =
    let rows = c.self.inside.rows.items in
    let n : ℕ = c.self.inside.vertices in
    let cells = c.self.inside.cells in
    let lane = c.args.self.now in
    let v : ℕ = c.args.v in
    let below : v < length rows = below_spare rows n cells lane v c.self.invariant.0 c.self.view_is c.requires.vertex c.requires.room in
    let row : Row = c.index-row.result.now in
    let found = row_there rows n cells lane v row c.self.invariant.0 c.self.view_is c.requires.vertex below c.index-row.ensures in
    omega (arith, found.within, found.small, found.spare, c.requires.room)

pub overflow_sub-row : goal.overflow_sub-row
overflow_sub-row c =
    let rows = c.self.inside.rows.items in
    let n : ℕ = c.self.inside.vertices in
    let cells = c.self.inside.cells in
    let lane = c.args.self.now in
    let v : ℕ = c.args.v in
    let below : v < length rows = below_spare rows n cells lane v c.self.invariant.0 c.self.view_is c.requires.vertex c.requires.room in
    let row : Row = c.index-row.result.now in
    let found = row_there rows n cells lane v row c.self.invariant.0 c.self.view_is c.requires.vertex below c.index-row.ensures in
    omega (arith, found.spare, c.requires.room)

pub index_mut-requires : goal.index_mut-requires
index_mut-requires c =
    let rows = c.self.inside.rows.items in
    let n : ℕ = c.self.inside.vertices in
    let cells = c.self.inside.cells in
    let lane = c.args.self.now in
    let v : ℕ = c.args.v in
    let below : v < length rows = below_spare rows n cells lane v c.self.invariant.0 c.self.view_is c.requires.vertex c.requires.room in
    omega (arith, below, c.self.inside.rows.ok)

pub invariant_of-self : goal.invariant_of-self
invariant_of-self c =
    let rows = c.self.inside.rows.items in
    let n : ℕ = c.self.inside.vertices in
    let cells = c.self.inside.cells in
    let lane = c.args.self.now in
    let v : ℕ = c.args.v in
    let below : v < length rows = below_spare rows n cells lane v c.self.invariant.0 c.self.view_is c.requires.vertex c.requires.room in
    let row : Row = c.index-row.result.now in
    let found = row_there rows n cells lane v row c.self.invariant.0 c.self.view_is c.requires.vertex below c.index-row.ensures in
    let is_lane = c.self.invariant.0 in
    let long : length c.set.new.self.ends ≡ length cells.ends = ap (λ (x : Celled). length x.ends) c.set.ensures ∙ length-set cells.ends (row.start + row.len) c.args.end in
    let room : c.set.new.self.room ≡ cells.room = ap (λ (x : Celled). x.room) c.set.ensures in
    let new : Row = record { start = row.start; len = row.len + 1; spare = row.spare - 1; fresh = row.fresh } in
    let laid : AreLaid (set rows v new) (length cells.ends) = laid_set rows (length cells.ends) v row new is_lane.laid below c.index-row.ensures (omega arith) (omega (arith, found.spare, c.requires.room)) in (
      record {
        small = omega (arith, is_lane.small, room);
        fits = omega (arith, is_lane.fits, long, room);
        laid = subst (λ (k : ℕ). AreLaid (set rows v new) k) (sym long) laid;
        few = omega (arith, is_lane.few, length-set rows v new);
      },
      c.self.invariant.1,
    )

pub returns : goal.returns
returns c =
    let rows = c.self.inside.rows.items in
    let n : ℕ = c.self.inside.vertices in
    let cells = c.self.inside.cells in
    let lane = c.args.self.now in
    let v : ℕ = c.args.v in
    let below : v < length rows = below_spare rows n cells lane v c.self.invariant.0 c.self.view_is c.requires.vertex c.requires.room in
    let row : Row = c.index-row.result.now in
    let found = row_there rows n cells lane v row c.self.invariant.0 c.self.view_is c.requires.vertex below c.index-row.ensures in
    let is_lane = c.self.invariant.0 in
    let size : ℕ = length cells.ends in
    let new : Row = record { start = row.start; len = row.len + 1; spare = row.spare - 1; fresh = row.fresh } in
    let p : ℕ = row.start + row.len in
    let room : 0 < get_or (shown_by rows n cells).spare v 0 = omega (arith, c.requires.room, ap (λ (l : Laned). get_or l.spare v 0) c.self.view_is) in
    ap (shown_by (set rows v new) n) c.set.ensures
    ∙ (ap (λ (k : ℕ). laned (all_rows (set rows v new) n k) (set cells.ends p c.args.end) cells.room) (length-set cells.ends p c.args.end)
    ∙ (ap (λ (l : List Row). laned l (set cells.ends p c.args.end) cells.room) (all_set rows n size v new below)
    ∙ (lane_pushed (all_rows rows n size) cells.ends cells.room v row c.args.end (all_below rows n size v is_lane.few below) (all_is rows n size v row below c.index-row.ensures)
    (laid_behind rows size (n - length rows) is_lane.laid) room
    ∙ ap (λ (l : Laned). pushed l v c.args.end) c.self.view_is)))
