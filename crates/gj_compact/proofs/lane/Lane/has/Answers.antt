use Rattle.std.proofs.Common.{◌≡◌, ◌+◌, ◌-◌, ℕ, List, take, drop, get_or, arith, ap, ◌∙◌}
use Rattle.std.specs.List.{list_any}
use Rattle.gj_compact.specs.declared.lane.Row.{Row}
use Rattle.gj_compact.specs.Blocks.{reaches}
use Rattle.gj_compact.specs.Lanes.{unused_row}
use Rattle.gj_compact.proofs.RowLemmas.{row_found}
use Rattle.gj_compact.proofs.lane.Lane.has.Goals as goal

pub has-requires-clause-inside : goal.has-requires-clause-inside
has-requires-clause-inside c =
    let rows = c.self.inside.rows.items in
    let n : ℕ = c.self.inside.vertices in
    let cells = c.self.inside.cells in
    let lane = c.args.self.now in
    let v : ℕ = c.args.v in
    let row : Row = c.row_of-row.result in
    let found = row_found rows n cells lane v row c.self.invariant.0 c.self.view_is c.requires (c.row_of-row.ensures ∙ ap (λ (l : List Row). get_or l v (unused_row 0)) c.deref.ensures.value) in
    omega (arith, found.within)

pub returns : goal.returns
returns c =
    let rows = c.self.inside.rows.items in
    let n : ℕ = c.self.inside.vertices in
    let cells = c.self.inside.cells in
    let lane = c.args.self.now in
    let v : ℕ = c.args.v in
    let row : Row = c.row_of-row.result in
    let found = row_found rows n cells lane v row c.self.invariant.0 c.self.view_is c.requires (c.row_of-row.ensures ∙ ap (λ (l : List Row). get_or l v (unused_row 0)) c.deref.ensures.value) in
    let k : row.start + row.len - row.start ≡ row.len = omega arith in
    c.has.ensures ∙ ap (list_any (reaches c.args.vertex c.args.mask)) (ap (λ (m : ℕ). take m (drop row.start cells.ends)) k ∙ found.run)
