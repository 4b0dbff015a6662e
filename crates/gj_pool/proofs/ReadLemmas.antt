-- The way to a place: each link lies in a slice that is cut, and the last leads to the slice of the place.
use Rattle.std.proofs.Common.{◌≡◌, ℕ, suc, ◌+◌, ◌-◌, ◌*◌, ◌<◌, ◌≤◌, List, length, get_or, ap, ◌∙◌, arith}
use Rattle.std.proofs.lemmas.List.FromFn.{get_or-map-range_with_len}
use Rattle.gj_pool.specs.Levels.{hops_to}
use Rattle.gj_pool.specs.Slices.{slice_size, slice_start, slice_of, slices_for, address_of, row_cells, IsRow, AreSlices}
use Rattle.gj_pool.specs.declared.slices.Row.{Row}
use Rattle.gj_pool.proofs.LevelLemmas.{size-suc, size_twice, slice_is}
use Rattle.gj_pool.proofs.SliceLemmas.{start-suc, slice_of_held, address-is, row-is}
use Rattle.gj_pool.proofs.RowLemmas.{row_at}

-- the link after slice m, on the way to place i
pub record IsLink (cells : List ℕ) (used first i m : ℕ) : Type 0 where
  pub within : slice_start cells first m + slice_size m < used
  pub small : slice_start cells first m + slice_size m < 196608
  pub size : slice_size m ≤ i + 4
  pub next : slice_start cells first (suc m) ≡ get_or cells (slice_start cells first m + slice_size m) 0
  pub twice : slice_size (suc m) ≡ 2 * slice_size m

pub link_on_way : (rows : List Row) (cells : List ℕ) (used v i m : ℕ) (row : Row) → AreSlices rows cells used → v < length rows → row ≡ get_or rows v row → i < row.degree → m < slice_of i → IsLink cells used row.first i m
link_on_way rows cells used v i m row s within read held on_way =
    let r : IsRow cells used s.apart.whose s.apart.which v row = row_at rows cells used v row s.apart within read in
    let last : slice_of i < slices_for row.degree = slice_of_held row.degree (slices_for row.degree) i r.keeps.fits held in
    let inside = r.keeps.inside m (omega (arith, last, on_way)) in
    record {
      within = inside;
      small = omega (arith, inside, s.within, s.small);
      size = omega (arith, size_twice m (slice_of i) on_way, (slice_is i).1);
      next = start-suc cells row.first m;
      twice = size-suc m;
    }

-- the cell of place i
pub record IsPlace (cells : List ℕ) (used first degree i : ℕ) : Type 0 where
  pub low : slice_size (slice_of i) ≤ i + 4
  pub within : slice_start cells first (slice_of i) + (i + 4 - slice_size (slice_of i)) < used
  pub small : slice_start cells first (slice_of i) + (i + 4 - slice_size (slice_of i)) < 196608
  pub read : get_or (row_cells cells first degree) i 0 ≡ get_or cells (slice_start cells first (slice_of i) + (i + 4 - slice_size (slice_of i))) 0
  pub slice : slice_of i + 1 ≡ hops_to (i + 2)

pub place_held : (rows : List Row) (cells : List ℕ) (used v i : ℕ) (row : Row) → AreSlices rows cells used → v < length rows → row ≡ get_or rows v row → i < row.degree → IsPlace cells used row.first row.degree i
place_held rows cells used v i row s within read held =
    let r : IsRow cells used s.apart.whose s.apart.which v row = row_at rows cells used v row s.apart within read in
    let last : slice_of i < slices_for row.degree = slice_of_held row.degree (slices_for row.degree) i r.keeps.fits held in
    let inside = r.keeps.inside (slice_of i) last in
    let b = slice_is i in
    record {
      low = b.1;
      within = omega (arith, inside, b.1, b.2);
      small = omega (arith, inside, s.within, s.small, b.1, b.2);
      read = ap (λ (l : List ℕ). get_or l i 0) (row-is cells row.first row.degree)
          ∙ (get_or-map-range_with_len (λ place. get_or cells (address_of cells row.first place) 0) 0 row.degree i i 0 held (omega arith)
          ∙ ap (λ a. get_or cells a 0) (address-is cells row.first i));
      slice = omega (arith, b.0);
    }
