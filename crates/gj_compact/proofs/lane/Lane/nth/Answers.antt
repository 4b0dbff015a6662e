use Rattle.std.proofs.Common.{◌≡◌, ◌+◌, ◌-◌, ◌<◌, ℕ, List, length, filter, take, drop, slice_get, arith, ap, sym, ◌∙◌}
use Rattle.std.proofs.lemmas.List.Sums.{count_by-le-length}
use Rattle.gj_compact.specs.declared.lane.Row.{Row}
use Rattle.gj_compact.specs.declared.edge.End.{End}
use Rattle.gj_compact.specs.Blocks.{lets_through}
use Rattle.gj_compact.specs.Lanes.{run_of}
use Rattle.gj_compact.proofs.RowLemmas.{row_there, below_run}
use Rattle.gj_compact.proofs.lane.Lane.nth.Goals as goal

pub index-row-requires : goal.index-row-requires
index-row-requires c =
    let rows = c.self.inside.rows.items in
    let n : ℕ = c.self.inside.vertices in
    let cells = c.self.inside.cells in
    let lane = c.args.self.now in
    let v : ℕ = c.args.v in
    let below : v < length rows = below_run rows n cells lane v c.self.invariant.0 c.self.view_is c.requires.vertex (omega (arith, c.requires.index, count_by-le-length (lets_through c.args.mask) (run_of lane.runs v))) in
    omega (arith, below, c.self.inside.rows.ok)

pub nth-requires-clause-inside : goal.nth-requires-clause-inside
nth-requires-clause-inside c =
    let rows = c.self.inside.rows.items in
    let n : ℕ = c.self.inside.vertices in
    let cells = c.self.inside.cells in
    let lane = c.args.self.now in
    let v : ℕ = c.args.v in
    let below : v < length rows = below_run rows n cells lane v c.self.invariant.0 c.self.view_is c.requires.vertex (omega (arith, c.requires.index, count_by-le-length (lets_through c.args.mask) (run_of lane.runs v))) in
    let row : Row = c.index-row.result.now in
    let found = row_there rows n cells lane v row c.self.invariant.0 c.self.view_is c.requires.vertex below c.index-row.ensures in
    omega (arith, found.within)

pub nth-requires-clause-index : goal.nth-requires-clause-index
nth-requires-clause-index c =
    let rows = c.self.inside.rows.items in
    let n : ℕ = c.self.inside.vertices in
    let cells = c.self.inside.cells in
    let lane = c.args.self.now in
    let v : ℕ = c.args.v in
    let below : v < length rows = below_run rows n cells lane v c.self.invariant.0 c.self.view_is c.requires.vertex (omega (arith, c.requires.index, count_by-le-length (lets_through c.args.mask) (run_of lane.runs v))) in
    let row : Row = c.index-row.result.now in
    let found = row_there rows n cells lane v row c.self.invariant.0 c.self.view_is c.requires.vertex below c.index-row.ensures in
    let k : row.start + row.len - row.start ≡ row.len = omega arith in
    let run = found.run in
    rw (k, run) c.requires.index

pub returns : goal.returns
returns c =
    let rows = c.self.inside.rows.items in
    let n : ℕ = c.self.inside.vertices in
    let cells = c.self.inside.cells in
    let lane = c.args.self.now in
    let v : ℕ = c.args.v in
    let below : v < length rows = below_run rows n cells lane v c.self.invariant.0 c.self.view_is c.requires.vertex (omega (arith, c.requires.index, count_by-le-length (lets_through c.args.mask) (run_of lane.runs v))) in
    let row : Row = c.index-row.result.now in
    let found = row_there rows n cells lane v row c.self.invariant.0 c.self.view_is c.requires.vertex below c.index-row.ensures in
    let k : row.start + row.len - row.start ≡ row.len = omega arith in
    ap (λ (l : List End). slice_get (filter (lets_through c.args.mask) l) c.args.i) (sym (ap (λ (m : ℕ). take m (drop row.start cells.ends)) k ∙ found.run)) ∙ c.nth.ensures
