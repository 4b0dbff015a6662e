use Rattle.std.proofs.Common.{◌-◌, ◌≤◌, ℕ, List, take, drop, get_or, count_by, arith, ap, ◌∙◌}
use Rattle.gj_compact.specs.declared.lane.Row.{Row}
use Rattle.gj_compact.specs.declared.edge.End.{End}
use Rattle.gj_compact.specs.Blocks.{lets_through}
use Rattle.gj_compact.specs.Lanes.{unused_row}
use Rattle.gj_compact.proofs.BlockLemmas.{run_part}
use Rattle.gj_compact.proofs.RowLemmas.{row_found}
use Rattle.gj_compact.proofs.lane.Lane.count.Goals as goal

pub overflow_add-start : goal.overflow_add-start
overflow_add-start c =
    let rows = c.self.inside.rows.items in
    let n : ℕ = c.self.inside.vertices in
    let cells = c.self.inside.cells in
    let lane = c.args.self.now in
    let v : ℕ = c.args.v in
    let row : Row = c.row_of-start.result in
    let found = row_found rows n cells lane v row c.self.invariant.0 c.self.view_is c.requires.vertex (c.row_of-start.ensures ∙ ap (λ (l : List Row). get_or l v (unused_row 0)) c.deref.ensures.value) in
    omega (arith, found.within, found.small, found.len, c.requires.order, c.requires.inside)

pub overflow_add-start-2 : goal.overflow_add-start-2
overflow_add-start-2 c =
    let rows = c.self.inside.rows.items in
    let n : ℕ = c.self.inside.vertices in
    let cells = c.self.inside.cells in
    let lane = c.args.self.now in
    let v : ℕ = c.args.v in
    let row : Row = c.row_of-start.result in
    let found = row_found rows n cells lane v row c.self.invariant.0 c.self.view_is c.requires.vertex (c.row_of-start.ensures ∙ ap (λ (l : List Row). get_or l v (unused_row 0)) c.deref.ensures.value) in
    omega (arith, found.within, found.small, found.len, c.requires.inside)

pub count-requires-clause-inside : goal.count-requires-clause-inside
count-requires-clause-inside c =
    let rows = c.self.inside.rows.items in
    let n : ℕ = c.self.inside.vertices in
    let cells = c.self.inside.cells in
    let lane = c.args.self.now in
    let v : ℕ = c.args.v in
    let row : Row = c.row_of-start.result in
    let found = row_found rows n cells lane v row c.self.invariant.0 c.self.view_is c.requires.vertex (c.row_of-start.ensures ∙ ap (λ (l : List Row). get_or l v (unused_row 0)) c.deref.ensures.value) in
    omega (arith, found.within, found.len, c.requires.inside)

pub returns-clause-exact : goal.returns-clause-exact
returns-clause-exact c =
    let rows = c.self.inside.rows.items in
    let n : ℕ = c.self.inside.vertices in
    let cells = c.self.inside.cells in
    let lane = c.args.self.now in
    let v : ℕ = c.args.v in
    let row : Row = c.row_of-start.result in
    let found = row_found rows n cells lane v row c.self.invariant.0 c.self.view_is c.requires.vertex (c.row_of-start.ensures ∙ ap (λ (l : List Row). get_or l v (unused_row 0)) c.deref.ensures.value) in
    let inside : c.args.to ≤ row.len = omega (arith, found.len, c.requires.inside) in
    c.count.ensures.exact ∙ ap (count_by (lets_through c.args.mask)) (run_part cells.ends row.start row.len c.args.from c.args.to c.requires.order inside
    ∙ ap (λ (l : List End). take (c.args.to - c.args.from) (drop c.args.from l)) found.run)
