use Rattle.std.proofs.Common.{◌≡◌, ◌<◌, ℕ, List, length, slice_get, IfSome, Option, subst, arith, ap, sym, ◌∙◌}
use Rattle.gj_compact.specs.declared.lane.Row.{Row}
use Rattle.gj_compact.specs.declared.edge.End.{End}
use Rattle.gj_compact.proofs.RowLemmas.{row_there, below_run, run_get}
use Rattle.gj_compact.proofs.lane.Lane.vertex.Goals as goal

pub index-requires : goal.index-requires
index-requires c =
    let rows = c.self.inside.rows.items in
    let n : ℕ = c.self.inside.vertices in
    let cells = c.self.inside.cells in
    let lane = c.args.self.now in
    let v : ℕ = c.args.v in
    let below : v < length rows = below_run rows n cells lane v c.self.invariant.0 c.self.view_is c.requires.vertex (omega (arith, c.requires.index)) in
    omega (arith, below, c.self.inside.rows.ok)

pub overflow_add-index : goal.overflow_add-index
overflow_add-index c =
    let rows = c.self.inside.rows.items in
    let n : ℕ = c.self.inside.vertices in
    let cells = c.self.inside.cells in
    let lane = c.args.self.now in
    let v : ℕ = c.args.v in
    let below : v < length rows = below_run rows n cells lane v c.self.invariant.0 c.self.view_is c.requires.vertex (omega (arith, c.requires.index)) in
    let row : Row = c.index.result.now in
    let found = row_there rows n cells lane v row c.self.invariant.0 c.self.view_is c.requires.vertex below c.index.ensures in
    omega (arith, found.within, found.small, found.len, c.requires.index)

pub vertex-requires : goal.vertex-requires
vertex-requires c =
    let rows = c.self.inside.rows.items in
    let n : ℕ = c.self.inside.vertices in
    let cells = c.self.inside.cells in
    let lane = c.args.self.now in
    let v : ℕ = c.args.v in
    let below : v < length rows = below_run rows n cells lane v c.self.invariant.0 c.self.view_is c.requires.vertex (omega (arith, c.requires.index)) in
    let row : Row = c.index.result.now in
    let found = row_there rows n cells lane v row c.self.invariant.0 c.self.view_is c.requires.vertex below c.index.ensures in
    omega (arith, found.within, found.len, c.requires.index)

pub returns : goal.returns
returns c =
    let rows = c.self.inside.rows.items in
    let n : ℕ = c.self.inside.vertices in
    let cells = c.self.inside.cells in
    let lane = c.args.self.now in
    let v : ℕ = c.args.v in
    let below : v < length rows = below_run rows n cells lane v c.self.invariant.0 c.self.view_is c.requires.vertex (omega (arith, c.requires.index)) in
    let row : Row = c.index.result.now in
    let found = row_there rows n cells lane v row c.self.invariant.0 c.self.view_is c.requires.vertex below c.index.ensures in
    let same = run_get cells.ends row.start row.len c.args.i (omega (arith, found.len, c.requires.index)) (omega (arith, found.within)) in
    subst (λ (o : Option End). IfSome o (λ e. c.vertex.result ≡ e.vertex)) (sym (ap (λ (l : List End). slice_get l c.args.i) (sym found.run) ∙ same)) c.vertex.ensures
