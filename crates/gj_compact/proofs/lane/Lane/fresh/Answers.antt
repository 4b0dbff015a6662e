use Rattle.std.proofs.Common.{ℕ, List, get_or, ap, ◌∙◌}
use Rattle.gj_compact.specs.declared.lane.Row.{Row}
use Rattle.gj_compact.specs.Lanes.{unused_row}
use Rattle.gj_compact.proofs.RowLemmas.{row_found}
use Rattle.gj_compact.proofs.lane.Lane.fresh.Goals as goal

pub returns : goal.returns
returns c =
    let rows = c.self.inside.rows.items in
    let n : ℕ = c.self.inside.vertices in
    let cells = c.self.inside.cells in
    let lane = c.args.self.now in
    let v : ℕ = c.args.v in
    let row : Row = c.row_of.result in
    let found = row_found rows n cells lane v row c.self.invariant.0 c.self.view_is c.requires (c.row_of.ensures ∙ ap (λ (l : List Row). get_or l v (unused_row 0)) c.deref.ensures.value) in
    found.fresh
