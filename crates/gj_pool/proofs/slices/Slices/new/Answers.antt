use Rattle.std.proofs.Common.{◌≡◌, ◌≤◌, ℕ, List, [], length, ap, sym, subst, ◌∙◌, arith, replicate, refl}
use Rattle.gj_pool.specs.Slices.{array_of, AreSlices}
use Rattle.gj_pool.specs.declared.slices.Row.{Row}
use Rattle.gj_pool.proofs.ArrayLemmas.{array_long}
use Rattle.gj_pool.proofs.RowLemmas.{no_slices, no_lists, none_alike}
use Rattle.gj_pool.proofs.slices.Slices.new.Goals as goal

pub invariant_of-result : goal.invariant_of-result
invariant_of-result c =
    let alike = c.in-Ok.ensures.items_if_clones_equal (λ y e. e) in
    let none = none_alike c.in-Ok.rows.items c.args.vertices _ alike refl refl in
    let cut : List ℕ = c.in-Ok-with_capacity.cells.items in
    let cells : List ℕ = array_of cut c.args.room in
    let empty : length cut ≡ 0 = ap length c.in-Ok-with_capacity.ensures.items in
    let few : length cut ≤ c.args.room = omega (arith, empty) in (
      subst (AreSlices c.in-Ok.rows.items cells) (sym empty) (no_slices c.in-Ok.rows.items cells (omega (arith, array_long cut c.args.room few, c.requires.limit)) none),
      record { within = omega arith; rest = λ v d from within. none v d within },
      few,
      omega (arith, c.in-Ok-with_capacity.ensures.capacity),
    )

pub returns-in-Ok-with_capacity-clause-lists : goal.returns-in-Ok-with_capacity-clause-lists
returns-in-Ok-with_capacity-clause-lists c =
    let alike = c.in-Ok.ensures.items_if_clones_equal (λ y e. e) in
    let rows : List Row = c.in-Ok.rows.items in
    let row : Row = record { degree = 0; full = 0; first = 0; next = 0 } in
    let long : length rows ≡ c.args.vertices = omega (arith, c.in-Ok.ensures.len, c.in-Ok.rows.ok) in
    no_lists rows (array_of c.in-Ok-with_capacity.cells.items c.args.room) (λ v d h. (none_alike rows c.args.vertices row alike refl refl v d h).0) ∙ ap (λ n. replicate n (let l : List ℕ = [] in l)) long
