use Rattle.std.proofs.Common.{◌-◌, ◌<◌, ◌≤◌, ℕ, List, length, map, take, drop, subst, arith, ap, ◌∙◌}
use Rattle.gj_compact.specs.declared.lane.Row.{Row}
use Rattle.gj_compact.specs.declared.edge.End.{End}
use Rattle.gj_compact.specs.Blocks.{AreBounds}
use Rattle.gj_compact.proofs.BlockLemmas.{run_part}
use Rattle.gj_compact.proofs.RowLemmas.{row_there, below_run}
use Rattle.gj_compact.proofs.lane.Lane.bounds.Goals as goal

pub index-requires : goal.index-requires
index-requires c =
    let rows = c.self.inside.rows.items in
    let n : ℕ = c.self.inside.vertices in
    let cells = c.self.inside.cells in
    let lane = c.args.self.now in
    let v : ℕ = c.args.v in
    let below : v < length rows = below_run rows n cells lane v c.self.invariant.0 c.self.view_is c.requires.vertex (omega (arith, c.requires.some, c.requires.inside)) in
    omega (arith, below, c.self.inside.rows.ok)

pub overflow_add-start : goal.overflow_add-start
overflow_add-start c =
    let rows = c.self.inside.rows.items in
    let n : ℕ = c.self.inside.vertices in
    let cells = c.self.inside.cells in
    let lane = c.args.self.now in
    let v : ℕ = c.args.v in
    let below : v < length rows = below_run rows n cells lane v c.self.invariant.0 c.self.view_is c.requires.vertex (omega (arith, c.requires.some, c.requires.inside)) in
    let row : Row = c.index.result.now in
    let found = row_there rows n cells lane v row c.self.invariant.0 c.self.view_is c.requires.vertex below c.index.ensures in
    omega (arith, found.within, found.small, found.len, c.requires.some, c.requires.inside)

pub overflow_add-start-2 : goal.overflow_add-start-2
overflow_add-start-2 c =
    let rows = c.self.inside.rows.items in
    let n : ℕ = c.self.inside.vertices in
    let cells = c.self.inside.cells in
    let lane = c.args.self.now in
    let v : ℕ = c.args.v in
    let below : v < length rows = below_run rows n cells lane v c.self.invariant.0 c.self.view_is c.requires.vertex (omega (arith, c.requires.some, c.requires.inside)) in
    let row : Row = c.index.result.now in
    let found = row_there rows n cells lane v row c.self.invariant.0 c.self.view_is c.requires.vertex below c.index.ensures in
    omega (arith, found.within, found.small, found.len, c.requires.inside)

pub bounds-requires-clause-inside : goal.bounds-requires-clause-inside
bounds-requires-clause-inside c =
    let rows = c.self.inside.rows.items in
    let n : ℕ = c.self.inside.vertices in
    let cells = c.self.inside.cells in
    let lane = c.args.self.now in
    let v : ℕ = c.args.v in
    let below : v < length rows = below_run rows n cells lane v c.self.invariant.0 c.self.view_is c.requires.vertex (omega (arith, c.requires.some, c.requires.inside)) in
    let row : Row = c.index.result.now in
    let found = row_there rows n cells lane v row c.self.invariant.0 c.self.view_is c.requires.vertex below c.index.ensures in
    omega (arith, found.within, found.len, c.requires.inside)

pub returns : goal.returns
returns c =
    let rows = c.self.inside.rows.items in
    let n : ℕ = c.self.inside.vertices in
    let cells = c.self.inside.cells in
    let lane = c.args.self.now in
    let v : ℕ = c.args.v in
    let below : v < length rows = below_run rows n cells lane v c.self.invariant.0 c.self.view_is c.requires.vertex (omega (arith, c.requires.some, c.requires.inside)) in
    let row : Row = c.index.result.now in
    let found = row_there rows n cells lane v row c.self.invariant.0 c.self.view_is c.requires.vertex below c.index.ensures in
    let inside : c.args.to ≤ row.len = omega (arith, found.len, c.requires.inside) in
    let same = run_part cells.ends row.start row.len c.args.from c.args.to (omega (arith, c.requires.some)) inside
    ∙ ap (λ (l : List End). take (c.args.to - c.args.from) (drop c.args.from l)) found.run in
    subst (λ (l : List End). AreBounds (map (λ (e : End). e.at) l) c.bounds.result.0 c.bounds.result.1) same c.bounds.ensures
