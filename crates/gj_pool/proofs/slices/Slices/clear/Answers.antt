use Rattle.std.proofs.Common.{◌≡◌, ◌<◌, ◌≤◌, ℕ, ◌++◌, List, [], length, ap, sym, ◌∙◌, subst, arith, drop, get_or, map, refl, vec_len, replicate}
use Rattle.std.proofs.lemmas.List.{length-map, with_items_is}
use Rattle.gj_pool.specs.declared.slices.TheConstants.{NO_SLICE}
use Rattle.gj_pool.specs.Slices.{array_of, AreSlices, HaveBegun}
use Rattle.gj_pool.specs.declared.slices.Row.{Row}
use Rattle.gj_pool.proofs.ArrayLemmas.{array_long}
use Rattle.gj_pool.proofs.BeginLemmas.{from_fill, fill_long}
use Rattle.gj_pool.proofs.RowLemmas.{view_of, no_slices, no_lists}
use Rattle.gj_pool.proofs.PushLemmas.{sliced}
use Rattle.gj_pool.proofs.slices.Slices.clear.Goals as goal

-- the rows after their first are filled
record IsEmptied (was rows : List Row) : Type 0 where
  pub long : length rows ≡ length was
  pub none : (v : ℕ) (d : Row) → v < length rows → ((get_or rows v d).degree ≡ 0) × ((get_or rows v d).full ≡ 0)

emptied : (was rows : List Row) (n : ℕ) → HaveBegun was n → rows ≡ replicate n NO_SLICE ++ drop n was → IsEmptied was rows
emptied was rows n begun filled = record {
  long = fill_long was rows n NO_SLICE filled begun.within;
  none = λ v d within. from_fill (λ (row : Row). (row.degree ≡ 0) × (row.full ≡ 0)) was rows n NO_SLICE filled begun.within (refl, refl) begun.rest v d (omega arith) within;
}

pub invariant_of-self : goal.invariant_of-self
invariant_of-self c =
    let rows : List Row = c.empty.new.rows in
    let was : List Row = c.self.inside.rows.items in
    let e : IsEmptied was rows = emptied was rows c.self.inside.begun c.self.invariant.1 (c.empty.ensures ∙ ap (λ (l : List Row). replicate c.self.inside.begun NO_SLICE ++ drop c.self.inside.begun l) c.deref_mut.ensures.value) in
    let same : length rows ≡ vec_len c.self.inside.rows = omega (arith, e.long, ap length c.deref_mut.ensures.value, c.deref_mut.ensures.len) in
    let cut : List ℕ = c.clear.new.self.items in
    let room : ℕ = c.self.inside.room in
    let cells : List ℕ = array_of cut room in
    let empty : length cut ≡ 0 = ap length c.clear.ensures.items in
    let few : length cut ≤ room = omega (arith, empty) in
    let small : length cells ≤ 196608 = omega (arith, array_long cut room few, array_long c.self.inside.cells.items room c.self.invariant.2, c.self.invariant.0.small) in
    let slices = subst (λ (l : List Row). AreSlices l cells (length cut) × HaveBegun l 0) (sym (with_items_is c.self.inside.rows rows same))
    (subst (AreSlices rows cells) (sym empty) (no_slices rows cells small e.none), record { within = omega arith; rest = λ v d from within. e.none v d within }) in
    (slices.0, slices.1, few, omega (arith, c.self.invariant.3, c.clear.ensures.capacity))

pub returns : goal.returns
returns c =
    let rows : List Row = c.empty.new.rows in
    let was : List Row = c.self.inside.rows.items in
    let cells : List ℕ = array_of c.self.inside.cells.items c.self.inside.room in
    let cells' : List ℕ = array_of c.clear.new.self.items c.self.inside.room in
    let e : IsEmptied was rows = emptied was rows c.self.inside.begun c.self.invariant.1 (c.empty.ensures ∙ ap (λ (l : List Row). replicate c.self.inside.begun NO_SLICE ++ drop c.self.inside.begun l) c.deref_mut.ensures.value) in
    let same : length rows ≡ vec_len c.self.inside.rows = omega (arith, e.long, ap length c.deref_mut.ensures.value, c.deref_mut.ensures.len) in
    let seen : map (view_of cells) was ≡ c.args.self.now.lists = ap (λ s. s.lists) c.self.view_is in
    let long : length rows ≡ length c.args.self.now.lists = omega (arith, e.long, length-map was (view_of cells), ap length seen) in
    record {
      exact = sliced _ _ _ _
          (ap (map (view_of cells')) (with_items_is c.self.inside.rows rows same)
          ∙ (no_lists rows cells' (λ k d h. (e.none k d h).0) ∙ ap (λ n. replicate n (let l : List ℕ = [] in l)) long))
          (ap (λ s. s.room) c.self.view_is);
    }
