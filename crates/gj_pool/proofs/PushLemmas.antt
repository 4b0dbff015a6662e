-- A push on the slices: the room for it, and what it leaves.
use Rattle.std.proofs.Common.{◌≡◌, ◌≢◌, ℕ, zero, suc, ◌+◌, ◌*◌, ◌<◌, ◌≤◌, List, [], ◌∷◌, ◌++◌, length, get_or, set, map, refl, ap, sym, ◌∙◌, subst, arith, inl, inr}
use Rattle.std.proofs.lemmas.Bool.{cases_lt, cases_eq}
use Rattle.std.proofs.lemmas.List.{length-set, length-map, length_push, get_or-map}
use Rattle.std.proofs.lemmas.List.Sums.{sum_by-set}
use Rattle.gj_pool.specs.Levels.{spent, levels_to}
use Rattle.gj_pool.specs.Lists.{cells_of, appended}
use Rattle.gj_pool.specs.Slices.{Sliced, slice_size, slices_for, IsRow, AreSlices, cut_for}
use Rattle.gj_pool.specs.declared.slices.Row.{Row}
use Rattle.gj_pool.proofs.LevelLemmas.{size-suc, size-zero, slices_need, slices-more, spent-is, levels-suc}
use Rattle.gj_pool.proofs.SliceLemmas.{length-row}
use Rattle.gj_pool.proofs.RowLemmas.{view_of, IsReady, row_at, ready_spare, ready_first, ready_link, own_place, put_apart, cut-rows}

-- how a row is made ready
pub record Readies (was row : Row) (cells new : List ℕ) (used more : ℕ) : Type 0 where
  pub spare : was.degree ≢ was.full → (row ≡ was) × (new ≡ cells) × (more ≡ used)
  pub opened : was.degree ≡ was.full → (row.degree ≡ was.degree) × (row.full ≡ 2 * was.full + 4) × (row.next ≡ used) × (more ≡ used + was.full + 5)
  pub begun : was.degree ≡ was.full → was.full ≡ 0 → (row.first ≡ used) × (new ≡ cells)
  pub linked : was.degree ≡ was.full → 0 < was.full → (row.first ≡ was.first) × (new ≡ set cells was.next used)

some_slice : (n : ℕ) → 4 < slice_size n → (m : ℕ) × (suc m ≡ n)
some_slice zero h = absurd (omega (arith, h, size-zero))
some_slice (suc m) h = (m, refl)

-- the link cell of a full row lies in a slice that is cut
pub link_within : (rows : List Row) (cells : List ℕ) (used v : ℕ) (was : Row) → AreSlices rows cells used → v < length rows → was ≡ get_or rows v was → was.degree ≡ was.full → 0 < was.full → was.next < used
link_within rows cells used v was s within read full some =
    let r : IsRow cells used s.apart.whose s.apart.which v was = row_at rows cells used v was s.apart within read in
    let m = some_slice (slices_for was.degree) (omega (arith, r.full)) in
    omega (arith, r.keeps.next_is m.0 m.1, r.keeps.inside m.0 (omega (arith, m.1)), r.full, full, ap slice_size m.1, size-suc m.0)

-- what one more cell costs
cost_full : (t n : ℕ) → slices_for t ≡ n → t + 4 ≡ slice_size n → spent (t + 1 + 2) ≡ spent (t + 2) + (slice_size n + 1)
cost_full t n e full =
    let more : slices_for (t + 1) ≡ suc n = slices-more t n (omega (arith, full)) (omega (arith, full, size-suc n)) in
    omega (arith, spent-is (t + 1), spent-is t, ap levels_to more, ap levels_to e, levels-suc n)

cost_spare : (t m : ℕ) → slices_for t ≡ suc m → t + 4 < slice_size (suc m) → spent (t + 1 + 2) ≡ spent (t + 2)
cost_spare t m e spare =
    let low : slice_size m < t + 4 = slices_need t m (sym e) in
    let more : slices_for (t + 1) ≡ suc m = slices-more t m (omega (arith, low)) spare in
    omega (arith, spent-is (t + 1), spent-is t, ap levels_to more, ap levels_to e)

pub cost_opened : (cells : List ℕ) (used : ℕ) (whose which : ℕ → ℕ) (v : ℕ) (was : Row) → IsRow cells used whose which v was → was.degree ≡ was.full → spent (was.degree + 1 + 2) ≡ spent (was.degree + 2) + (was.full + 5)
cost_opened cells used whose which v was r full =
    omega (arith, cost_full was.degree (slices_for was.degree) refl (omega (arith, full, r.full)), r.full)

pub cost_kept : (cells : List ℕ) (used : ℕ) (whose which : ℕ → ℕ) (v : ℕ) (was : Row) → IsRow cells used whose which v was → was.degree ≢ was.full → spent (was.degree + 1 + 2) ≡ spent (was.degree + 2)
cost_kept cells used whose which v was r spare =
    let lt : was.degree + 4 < slice_size (slices_for was.degree) = omega (arith, r.keeps.fits, r.full, spare) in
    let m = some_slice (slices_for was.degree) (omega (arith, lt)) in
    cost_spare was.degree m.0 (sym m.1) (rw m.1 lt)

-- the lists after a push need what the rows cost, and the cost of one more cell
pub cut_push : (rows : List Row) (cells : List ℕ) (used v : ℕ) (was : Row) (x : ℕ) (lists : List (List ℕ)) → AreSlices rows cells used → v < length rows → was ≡ get_or rows v was → map (view_of cells) rows ≡ lists → cut_for (appended lists v x) + spent (was.degree + 2) ≡ used + spent (was.degree + 1 + 2)
cut_push rows cells used v was x lists s within read seen =
    let f : List ℕ → ℕ = λ l. spent (length l + 2) in
    let held : cells_of lists v ≡ view_of cells was = ap (λ (l : List (List ℕ)). get_or l v []) (sym seen) ∙ (get_or-map (view_of cells) rows v was [] within ∙ ap (view_of cells) (sym read)) in
    let long : length (cells_of lists v) ≡ was.degree = ap length held ∙ length-row cells was.first was.degree in
    let longer : length (cells_of lists v ++ x ∷ []) ≡ was.degree + 1 = length_push (cells_of lists v) x ∙ ap (λ n. n + 1) long in
    let total : cut_for lists ≡ used = ap cut_for (sym seen) ∙ (cut-rows cells rows ∙ sym s.cut) in
    let lt : v < length lists = omega (arith, within, ap length seen, length-map rows (view_of cells)) in
    omega (arith, sum_by-set f lists v (cells_of lists v ++ x ∷ []) [] lt, total, ap (λ n. spent (n + 2)) long, ap (λ n. spent (n + 2)) longer)

-- the row is ready
pub made_ready : (rows : List Row) (cells new : List ℕ) (used more v : ℕ) (was row : Row) → AreSlices rows cells used → v < length rows → was ≡ get_or rows v was → Readies was row cells new used more → IsReady rows cells new more v was row
made_ready rows cells new used more v was row s within read how =
    let r : IsRow cells used s.apart.whose s.apart.which v was = row_at rows cells used v was s.apart within read in
    elim (cases_eq was.degree was.full) [
      | inr spare ↦
          (let e = how.spare spare in
          let lt : was.degree + 4 < slice_size (slices_for was.degree) = omega (arith, r.keeps.fits, r.full, spare) in
          let m = some_slice (slices_for was.degree) (omega (arith, lt)) in
          let base : IsReady rows cells cells used v was was = ready_spare rows cells used v was s.apart within read spare m.0 m.1 in
          subst (λ (row' : Row). IsReady rows cells new more v was row') (sym e.0)
          (subst (λ (n : List ℕ). IsReady rows cells n more v was was) (sym e.1)
          (subst (λ (u : ℕ). IsReady rows cells cells u v was was) (sym e.2) base)))
      | inl full ↦
          (let e = how.opened full in
          elim (cases_lt 0 was.full) [
            | inr le ↦
                (let none : was.full ≡ 0 = omega arith in
                let b = how.begun full none in
                let base : IsReady rows cells cells (used + was.full + 5) v was row = ready_first rows cells used v was row s.apart within read full none e.0 e.1 e.2 b.0 in
                subst (λ (n : List ℕ). IsReady rows cells n more v was row) (sym b.1)
                (subst (λ (u : ℕ). IsReady rows cells cells u v was row) (sym e.3) base))
            | inl some ↦
                (let b = how.linked full some in
                let m = some_slice (slices_for was.degree) (omega (arith, r.full)) in
                let base : IsReady rows cells (set cells was.next used) (used + was.full + 5) v was row =
                ready_link rows cells used v was row s.apart within read full (omega (arith, link_within rows cells used v was s within read full some, s.within)) m.0 m.1 e.0 e.1 e.2 b.0 in
                subst (λ (n : List ℕ). IsReady rows cells n more v was row) (sym b.1)
                (subst (λ (u : ℕ). IsReady rows cells (set cells was.next used) u v was row) (sym e.3) base))
          ])
    ]

-- the array keeps its length, and what is in use grows by what the cell costs
pub record Grows (was : Row) (cells new : List ℕ) (used more : ℕ) : Type 0 where
  pub long : length new ≡ length cells
  pub cost : more + spent (was.degree + 2) ≡ used + spent (was.degree + 1 + 2)

pub grows : (rows : List Row) (cells new : List ℕ) (used more v : ℕ) (was row : Row) → AreSlices rows cells used → v < length rows → was ≡ get_or rows v was → Readies was row cells new used more → Grows was cells new used more
grows rows cells new used more v was row s within read how =
    let r : IsRow cells used s.apart.whose s.apart.which v was = row_at rows cells used v was s.apart within read in
    elim (cases_eq was.degree was.full) [
      | inr spare ↦
          (let e = how.spare spare in
          record { long = ap length e.1; cost = omega (arith, e.2, cost_kept cells used s.apart.whose s.apart.which v was r spare) })
      | inl full ↦
          (let e = how.opened full in
          let cost : more + spent (was.degree + 2) ≡ used + spent (was.degree + 1 + 2) = omega (arith, e.3, cost_opened cells used s.apart.whose s.apart.which v was r full) in
          elim (cases_lt 0 was.full) [
            | inr le ↦ record { long = ap length (how.begun full (omega arith)).1; cost = cost }
            | inl some ↦ record { long = ap length (how.linked full some).1 ∙ length-set cells was.next used; cost = cost }
          ])
    ]

pub next_within : (rows : List Row) (old cells : List ℕ) (used v : ℕ) (was row : Row) → IsReady rows old cells used v was row → row.next < used
next_within rows old cells used v was row r = (own_place cells used r.whose r.which v r.slice row.first row.degree row.next r.keeps r.spare).3

-- where the next cell goes lies in a slice that is cut
pub next_fits : (rows : List Row) (cells new : List ℕ) (used more v x : ℕ) (was row : Row) (lists : List (List ℕ)) → AreSlices rows cells used → v < length rows → was ≡ get_or rows v was → Readies was row cells new used more → map (view_of cells) rows ≡ lists → cut_for (appended lists v x) ≤ length cells → (row.next < more) × (row.next < 196608)
next_fits rows cells new used more v x was row lists s within read how seen room =
    let below : row.next < more = next_within rows cells new more v was row (made_ready rows cells new used more v was row s within read how) in
    let g : Grows was cells new used more = grows rows cells new used more v was row s within read how in
    let cut = cut_push rows cells used v was x lists s within read seen in
    (below, omega (arith, below, g.cost, cut, room, s.small))

-- a new slice fits
pub slice_fits : (rows : List Row) (cells : List ℕ) (used v x : ℕ) (was : Row) (lists : List (List ℕ)) → AreSlices rows cells used → v < length rows → was ≡ get_or rows v was → map (view_of cells) rows ≡ lists → cut_for (appended lists v x) ≤ length cells → was.degree ≡ was.full → used + was.full + 5 ≤ length cells
slice_fits rows cells used v x was lists s within read seen room full =
    let r : IsRow cells used s.apart.whose s.apart.which v was = row_at rows cells used v was s.apart within read in
    omega (arith, cut_push rows cells used v was x lists s within read seen, cost_opened cells used s.apart.whose s.apart.which v was r full, room)

-- a push keeps the rows and the array in order
pub slices_pushed : (rows : List Row) (cells new : List ℕ) (used more v x : ℕ) (was row next : Row) (lists : List (List ℕ)) → AreSlices rows cells used → v < length rows → was ≡ get_or rows v was → Readies was row cells new used more → map (view_of cells) rows ≡ lists → cut_for (appended lists v x) ≤ length cells → next.degree ≡ row.degree + 1 → next.full ≡ row.full → next.first ≡ row.first → next.next ≡ row.next + 1 → AreSlices (set rows v next) (set new row.next x) more
slices_pushed rows cells new used more v x was row next lists s within read how seen room degree full first at =
    let r : IsReady rows cells new more v was row = made_ready rows cells new used more v was row s within read how in
    let g : Grows was cells new used more = grows rows cells new used more v was row s within read how in
    let long : length (set new row.next x) ≡ length cells = length-set new row.next x ∙ g.long in
    let cut = cut_push rows cells used v was x lists s within read seen in
    record {
      small = omega (arith, long, s.small);
      within = omega (arith, long, g.cost, cut, room);
      cut = omega (arith, sum_by-set (λ (row' : Row). spent (row'.degree + 2)) rows v next was within, s.cut, g.cost, ap (λ (row' : Row). spent (row'.degree + 2)) read, ap (λ n. spent (n + 2)) degree, ap (λ n. spent (n + 1 + 2)) r.degree);
      apart = put_apart rows cells new more v was row next x r within degree full first at;
    }

-- what contracts see, part by part
pub sliced : (old new : List (List ℕ)) (room more : ℕ) → new ≡ old → more ≡ room → (let s : Sliced = record { lists = new; room = more } in s) ≡ record { lists = old; room = room }
sliced old new room more e f =
    ap (λ (l : List (List ℕ)). let s : Sliced = record { lists = l; room = more } in s) e
    ∙ ap (λ (n : ℕ). let s : Sliced = record { lists = old; room = n } in s) f
