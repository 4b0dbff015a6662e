use Rattle.std.proofs.Common.{◌≡◌, ◌<◌, ℕ, List, length, ap, sym, ◌∙◌, arith, map}
use Rattle.std.proofs.lemmas.List.{length-map}
use Rattle.gj_pool.specs.Slices.{array_of}
use Rattle.gj_pool.specs.declared.slices.Row.{Row}
use Rattle.gj_pool.proofs.SliceLemmas.{length-row}
use Rattle.gj_pool.proofs.RowLemmas.{view_of, held_row}
use Rattle.gj_pool.proofs.slices.Slices.degree.Goals as goal

pub returns : goal.returns
returns c =
    let rows : List Row = c.self.inside.rows.items in
    let cells : List ℕ = array_of c.self.inside.cells.items c.self.inside.room in
    let row : Row = c.index.result.now in
    let seen : map (view_of cells) rows ≡ c.args.self.now.lists = ap (λ s. s.lists) c.self.view_is in
    let within : c.args.v < length rows = omega (arith, c.requires, ap length seen, length-map rows (view_of cells)) in
    record {
      exact = sym (ap length (held_row rows cells c.args.self.now.lists c.args.v row seen within c.index.ensures) ∙ length-row cells row.first row.degree);
    }
