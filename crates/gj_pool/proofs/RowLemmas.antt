-- The rows of all vertices over one array: a row is made ready for a cell, and the cell is put.
use Rattle.std.proofs.Common.{◌≡◌, ◌≢◌, ℕ, suc, ◌+◌, ◌-◌, ◌*◌, ◌<◌, ◌≤◌, List, [], ◌∷◌, ◌++◌, cond, ltb, length, get_or, set, map, replicate, refl, ap, sym, ◌∙◌, subst, arith, inl, inr}
use Rattle.std.specs.List.{sum_by}
use Rattle.std.proofs.lemmas.Bool.{cases_eq, lt-ltb, cond-true, cond-false, le-ltb}
use Rattle.std.proofs.lemmas.List.{get_or-set_same, get_or-set_other, ext_get_or, length-set, length-map, get_or-map, length-replicate, get_or-replicate}
use Rattle.std.proofs.lemmas.List.Sums.{sum_by-cons}
use Rattle.std.proofs.lemmas.List.FromFn.{map-range_with_len_more}
use Rattle.gj_pool.specs.Levels.{spent}
use Rattle.gj_pool.specs.Lists.{cells_of, appended}
use Rattle.gj_pool.specs.Slices.{slice_size, slice_start, slice_of, slices_for, address_of, row_cells, RowKeeps, IsRow, AreApart, AreSlices, cut_for}
use Rattle.gj_pool.specs.declared.slices.Row.{Row}
use Rattle.gj_pool.proofs.LevelLemmas.{size-suc, size-zero, size_pos, slice-is, slices-more, slices-zero, spent-first}
use Rattle.gj_pool.proofs.SliceLemmas.{start-zero, start-suc, start-misses, Misses, address-is, row-is, row-set, length-row, keeps-set, keeps-more, keeps-slice, keeps-cell, misses_other, misses_own}

-- the list of a row
abbrev pub view_of : List ℕ → Row → List ℕ
view_of cells row = row_cells cells row.first row.degree

-- row v can take one more cell; the lists are as they were over the old array
pub record IsReady (rows : List Row) (old cells : List ℕ) (used v : ℕ) (was row : Row) : Type 0 where
  pub whose : ℕ → ℕ
  pub which : ℕ → ℕ
  pub slice : ℕ
  pub others : (w : ℕ) (d : Row) → w < length rows → w ≢ v → IsRow cells used whose which w (get_or rows w d)
  pub others_same : (w : ℕ) (d : Row) → w < length rows → w ≢ v → view_of cells (get_or rows w d) ≡ view_of old (get_or rows w d)
  pub full : row.full + 4 ≡ slice_size (suc slice)
  pub keeps : RowKeeps cells used whose which v (suc slice) row.first row.degree row.next
  pub spare : row.degree + 4 < slice_size (suc slice)
  pub degree : row.degree ≡ was.degree
  pub same : view_of cells row ≡ view_of old was

-- the cells from `used` on are given to one slice
given : (ℕ → ℕ) → ℕ → ℕ → ℕ → ℕ
given owner used owned a = cond (ltb a used) (owner a) owned

given_old : (owner : ℕ → ℕ) (used owned a : ℕ) → a < used → given owner used owned a ≡ owner a
unfolding given
given_old owner used owned a h = cond-true (ltb a used) (owner a) owned (lt-ltb a used h)

given_new : (owner : ℕ → ℕ) (used owned a : ℕ) → used ≤ a → given owner used owned a ≡ owned
unfolding given
given_new owner used owned a h = cond-false (ltb a used) (owner a) owned (le-ltb a used h)

-- the row at its vertex
pub row_at : (rows : List Row) (cells : List ℕ) (used v : ℕ) (was : Row) (apart : AreApart rows cells used) → v < length rows → was ≡ get_or rows v was → IsRow cells used apart.whose apart.which v was
row_at rows cells used v was apart within read =
    let P : Row → Type 0 = λ row. IsRow cells used apart.whose apart.which v row in
    subst P (sym read) (apart.each v was within)

pub ready_spare : (rows : List Row) (cells : List ℕ) (used v : ℕ) (was : Row) → AreApart rows cells used → v < length rows → was ≡ get_or rows v was → was.degree ≢ was.full → (m : ℕ) → suc m ≡ slices_for was.degree → IsReady rows cells cells used v was was
ready_spare rows cells used v was apart within read spare m e =
    let r : IsRow cells used apart.whose apart.which v was = row_at rows cells used v was apart within read in
    record {
      whose = apart.whose;
      which = apart.which;
      slice = m;
      others = λ w d h other. apart.each w d h;
      others_same = λ w d h other. refl;
      full = rw e (r.full);
      keeps = rw e (r.keeps);
      spare = rw e (omega (arith, r.full, r.keeps.fits));
      degree = refl;
      same = refl;
    }

-- a full row, over an array where its last link names the first cell not in use
ready_slice : (rows : List Row) (old cells : List ℕ) (used v : ℕ) (was row : Row) (whose which : ℕ → ℕ) (n next : ℕ)
    → ((w : ℕ) (d : Row) → w < length rows → w ≢ v → IsRow cells used whose which w (get_or rows w d))
    → ((w : ℕ) (d : Row) → w < length rows → w ≢ v → view_of cells (get_or rows w d) ≡ view_of old (get_or rows w d))
    → RowKeeps cells used whose which v n row.first row.degree next
    → row.degree + 4 ≡ slice_size n → slice_start cells row.first n ≡ used
    → row.full + 4 ≡ slice_size (suc n) → row.next ≡ used → row.degree ≡ was.degree
    → view_of cells row ≡ view_of old was
    → IsReady rows old cells (used + slice_size n + 1) v was row
ready_slice rows old cells used v was row whose which n next others same keeps full start full' next' degree view =
    let more : ℕ = used + slice_size n + 1 in
    let le : used ≤ more = omega arith in
    let own = given whose used v in
    let place = given which used n in
    record {
      whose = own;
      which = place;
      slice = n;
      others = λ w d h other.
          (let r : IsRow cells used whose which w (get_or rows w d) = others w d h other in
          record { full = r.full; keeps = keeps-more cells used more whose which own place w _ _ _ _ le (given_old whose used v) (given_old which used n) r.keeps });
      others_same = same;
      full = full';
      keeps = rw next' (keeps-slice cells used own place v n row.first row.degree next
          (keeps-more cells used more whose which own place v n row.first row.degree next le (given_old whose used v) (given_old which used n) keeps)
          full start (λ o h. given_new whose used v (used + o) (omega arith)) (λ o h. given_new which used n (used + o) (omega arith)));
      spare = omega (arith, full, size-suc n, size_pos n);
      degree = degree;
      same = view;
    }

nil_row : (cells : List ℕ) (first : ℕ) → row_cells cells first 0 ≡ []
nil_row cells first = row-is cells first 0

pub ready_first : (rows : List Row) (cells : List ℕ) (used v : ℕ) (was row : Row) → AreApart rows cells used → v < length rows → was ≡ get_or rows v was → was.degree ≡ was.full → was.full ≡ 0 → row.degree ≡ was.degree → row.full ≡ 2 * was.full + 4 → row.next ≡ used → row.first ≡ used → IsReady rows cells cells (used + was.full + 5) v was row
ready_first rows cells used v was row apart within read full zero' degree full' next' first' =
    let r : IsRow cells used apart.whose apart.which v was = row_at rows cells used v was apart within read in
    let none : slices_for was.degree ≡ 0 = ap slices_for (full ∙ zero') ∙ slices-zero in
    let none' : row.degree ≡ 0 = degree ∙ (full ∙ zero') in
    let none'' : was.degree ≡ 0 = full ∙ zero' in
    let keeps : RowKeeps cells used apart.whose apart.which v 0 row.first row.degree was.next = record {
      fits = omega (arith, size-zero);
      begun = λ m e. absurd (omega arith);
      next_is = λ m e. absurd (omega arith);
      inside = λ m h. absurd (omega arith);
      owned = λ m o h le. absurd (omega arith);
      placed = λ m o h le. absurd (omega arith);
    } in
    let e : used + was.full + 5 ≡ used + slice_size 0 + 1 = omega (arith, size-zero) in
    rw e (ready_slice rows cells cells used v was row apart.whose apart.which 0 was.next (λ w d h other. apart.each w d h) (λ w d h other. refl)
    keeps (omega (arith, size-zero)) (start-zero cells row.first ∙ first') (omega (arith, size-suc 0, size-zero)) next' degree
    (ap (row_cells cells row.first) none' ∙ (nil_row cells row.first ∙ (sym (nil_row cells was.first) ∙ ap (row_cells cells was.first) (sym none'')))))

pub ready_link : (rows : List Row) (cells : List ℕ) (used v : ℕ) (was row : Row) → AreApart rows cells used → v < length rows → was ≡ get_or rows v was → was.degree ≡ was.full → was.next < length cells → (m : ℕ) → suc m ≡ slices_for was.degree → row.degree ≡ was.degree → row.full ≡ 2 * was.full + 4 → row.next ≡ used → row.first ≡ was.first → IsReady rows cells (set cells was.next used) (used + was.full + 5) v was row
ready_link rows cells used v was row apart within read full room m e degree full' next' first' =
    let r : IsRow cells used apart.whose apart.which v was = row_at rows cells used v was apart within read in
    let k : RowKeeps cells used apart.whose apart.which v (suc m) was.first was.degree was.next = rw e (r.keeps) in
    let size : was.full + 4 ≡ slice_size (suc m) = rw e (r.full) in
    let size' : was.degree + 4 ≡ slice_size (suc m) = omega arith in
    let last : m < suc m = omega arith in
    let at : slice_start cells was.first m + slice_size m ≡ was.next = omega (arith, k.next_is m refl, size-suc m) in
    let owner : apart.whose was.next ≡ v = ap apart.whose (sym at) ∙ k.owned m (slice_size m) last (omega arith) in
    let place : apart.which was.next ≡ m = ap apart.which (sym at) ∙ k.placed m (slice_size m) last (omega arith) in
    let mine : Misses cells (suc m) was.first was.degree was.next = misses_own cells used apart.whose apart.which v m was.first was.degree was.next was.next k place (k.next_is m refl) in
    let other = λ (w : ℕ) (d : Row) (h : w < length rows) (ne : w ≢ v).
    misses_other cells used apart.whose apart.which w (slices_for (get_or rows w d).degree) (get_or rows w d).first (get_or rows w d).degree (get_or rows w d).next v was.next (apart.each w d h).keeps owner ne in
    let cells' : List ℕ = set cells was.next used in
    let start : slice_start cells' was.first (suc m) ≡ used =
    start-suc cells' was.first m
    ∙ (ap (λ n. get_or cells' n 0) (ap (λ n. n + slice_size m) (start-misses cells was.next used (suc m) was.first was.degree m mine last) ∙ at)
    ∙ get_or-set_same cells was.next used 0 room) in
    let q : used + was.full + 5 ≡ used + slice_size (suc m) + 1 = omega (arith, size) in
    rw q (ready_slice rows cells cells' used v was row apart.whose apart.which (suc m) was.next
    (λ w d h ne. record { full = (apart.each w d h).full; keeps = keeps-set cells used apart.whose apart.which w _ _ _ _ was.next used (apart.each w d h).keeps (other w d h ne) })
    (λ w d h ne. row-set cells was.next used (slices_for (get_or rows w d).degree) _ _ (apart.each w d h).keeps.fits (other w d h ne))
    (rw (first', degree) (keeps-set cells used apart.whose apart.which v (suc m) was.first was.degree was.next was.next used k mine))
    (omega (arith, size', degree)) (rw first' start) (omega (arith, size, size-suc (suc m), full')) next' degree
    (rw (first', degree) (row-set cells was.next used (suc m) was.first was.degree k.fits mine)))

-- the place of the next cell is no link and no place in use, and lies below `used`
pub own_place : (cells : List ℕ) (used : ℕ) (whose which : ℕ → ℕ) (v m first degree next : ℕ) → RowKeeps cells used whose which v (suc m) first degree next → degree + 4 < slice_size (suc m) → (slice_start cells first m + (degree + 4 - slice_size m) ≡ next) × (which next ≡ m) × (whose next ≡ v) × (next < used)
own_place cells used whose which v m first degree next k spare =
    let last : m < suc m = omega arith in
    let low : slice_size m ≤ degree + 4 = k.begun m refl in
    let at : slice_start cells first m + (degree + 4 - slice_size m) ≡ next = omega (arith, k.next_is m refl) in
    let le : degree + 4 - slice_size m ≤ slice_size m = omega (arith, size-suc m) in
    (at, ap which (sym at) ∙ k.placed m _ last le, ap whose (sym at) ∙ k.owned m _ last le, omega (arith, k.inside m last, at, le))

put_cells : (cells : List ℕ) (used : ℕ) (whose which : ℕ → ℕ) (v m first degree next x : ℕ) → RowKeeps cells used whose which v (suc m) first degree next → degree + 4 < slice_size (suc m) → used ≤ length cells → row_cells (set cells next x) first (degree + 1) ≡ row_cells cells first degree ++ x ∷ []
put_cells cells used whose which v m first degree next x k spare within =
    let p = own_place cells used whose which v m first degree next k spare in
    let mine : Misses cells (suc m) first degree next = misses_own cells used whose which v m first degree next next k p.1 (k.next_is m refl) in
    let cells' : List ℕ = set cells next x in
    let slice : slice_of degree ≡ m = slice-is degree m (k.begun m refl) spare in
    let at : address_of cells' first degree ≡ next =
    address-is cells' first degree
    ∙ (ap (λ s. slice_start cells' first s + (degree + 4 - slice_size s)) slice
    ∙ (ap (λ n. n + (degree + 4 - slice_size m)) (start-misses cells next x (suc m) first degree m mine (omega arith)) ∙ p.0)) in
    let room : next < length cells = omega (arith, p.3) in
    row-is cells' first (degree + 1)
    ∙ (map-range_with_len_more (λ place. get_or cells' (address_of cells' first place) 0) 0 degree degree (omega arith)
    ∙ (ap (λ (l : List ℕ). l ++ get_or cells' (address_of cells' first degree) 0 ∷ []) (sym (row-is cells' first degree) ∙ row-set cells next x (suc m) first degree k.fits mine)
    ∙ ap (λ n. row_cells cells first degree ++ n ∷ []) (ap (λ a. get_or cells' a 0) at ∙ get_or-set_same cells next x 0 room)))

-- what the other rows are after the cell is put
others_put : (rows : List Row) (old cells : List ℕ) (used v : ℕ) (was row : Row) (x : ℕ) (r : IsReady rows old cells used v was row) → (w : ℕ) (d : Row) → w < length rows → w ≢ v → Misses cells (slices_for (get_or rows w d).degree) (get_or rows w d).first (get_or rows w d).degree row.next
others_put rows old cells used v was row x r w d h ne =
    let p = own_place cells used r.whose r.which v r.slice row.first row.degree row.next r.keeps r.spare in
    misses_other cells used r.whose r.which w _ _ _ (get_or rows w d).next v row.next (r.others w d h ne).keeps p.2 ne

pub put_apart : (rows : List Row) (old cells : List ℕ) (used v : ℕ) (was row new : Row) (x : ℕ) → IsReady rows old cells used v was row → v < length rows → new.degree ≡ row.degree + 1 → new.full ≡ row.full → new.first ≡ row.first → new.next ≡ row.next + 1 → AreApart (set rows v new) (set cells row.next x) used
put_apart rows old cells used v was row new x r within degree full first next =
    let m : ℕ = r.slice in
    let k : RowKeeps cells used r.whose r.which v (suc m) row.first row.degree row.next = r.keeps in
    let p = own_place cells used r.whose r.which v m row.first row.degree row.next k r.spare in
    let mine : Misses cells (suc m) row.first row.degree row.next = misses_own cells used r.whose r.which v m row.first row.degree row.next row.next k p.1 (k.next_is m refl) in
    let slices : slices_for new.degree ≡ suc m = ap slices_for degree ∙ slices-more row.degree m (k.begun m refl) r.spare in
    let cells' : List ℕ = set cells row.next x in
    let here : IsRow cells' used r.whose r.which v new = record {
      full = rw (slices, full) r.full;
      keeps = rw (slices, first, degree, next) (keeps-cell cells' used r.whose r.which v (suc m) row.first row.degree row.next
          (keeps-set cells used r.whose r.which v (suc m) row.first row.degree row.next row.next x k mine) r.spare);
    } in
    record {
      whose = r.whose;
      which = r.which;
      each = λ w d h.
          (let P : ℕ → Row → Type 0 = λ u row'. IsRow cells' used r.whose r.which u row' in
          elim (cases_eq w v) [
            | inl e ↦ subst (λ u. P u (get_or (set rows v new) u d)) (sym e) (subst (P v) (sym (get_or-set_same rows v new d within)) here)
            | inr ne ↦
                (let h' : w < length rows = omega (arith, h, length-set rows v new) in
                subst (P w) (sym (get_or-set_other rows v w new d ne)) (record {
                  full = (r.others w d h' ne).full;
                  keeps = keeps-set cells used r.whose r.which w _ _ _ _ row.next x (r.others w d h' ne).keeps (others_put rows old cells used v was row x r w d h' ne);
                }))
          ]);
    }

pub put_lists : (rows : List Row) (old cells : List ℕ) (used v : ℕ) (was row new : Row) (x : ℕ) (lists : List (List ℕ)) → IsReady rows old cells used v was row → v < length rows → was ≡ get_or rows v was → used ≤ length cells → new.degree ≡ row.degree + 1 → new.first ≡ row.first → map (view_of old) rows ≡ lists → map (view_of (set cells row.next x)) (set rows v new) ≡ appended lists v x
put_lists rows old cells used v was row new x lists r within read room degree first seen =
    let cells' : List ℕ = set cells row.next x in
    let here : view_of cells' new ≡ view_of old was ++ x ∷ [] =
    ap (λ f. row_cells cells' f new.degree) first
    ∙ (ap (row_cells cells' row.first) degree
    ∙ (put_cells cells used r.whose r.which v r.slice row.first row.degree row.next x r.keeps r.spare room
    ∙ ap (λ (l : List ℕ). l ++ x ∷ []) r.same)) in
    let held : cells_of lists v ≡ view_of old was = ap (λ (l : List (List ℕ)). get_or l v []) (sym seen) ∙ (get_or-map (view_of old) rows v was [] within ∙ ap (view_of old) (sym read)) in
    let longs : length lists ≡ length rows = ap length (sym seen) ∙ length-map rows (view_of old) in
    let longs' : length (map (view_of cells') (set rows v new)) ≡ length rows = length-map (set rows v new) (view_of cells') ∙ length-set rows v new in
    ext_get_or [] _ _ (longs' ∙ (sym longs ∙ sym (length-set lists v _)))
    (λ i h.
    let lt : i < length rows = omega (arith, h, longs') in
    let lt' : i < length (set rows v new) = omega (arith, lt, length-set rows v new) in
    let d : Row = was in
    get_or-map (view_of cells') (set rows v new) i d [] lt'
    ∙ elim (cases_eq i v) [
      | inl e ↦
          (let same : get_or (set rows v new) i d ≡ new = rw e (get_or-set_same rows v new d within) in
          ap (view_of cells') same ∙ (here ∙ (ap (λ (l : List ℕ). l ++ x ∷ []) (sym held)
          ∙ rw e (sym (get_or-set_same lists v (cells_of lists v ++ x ∷ []) [] (omega (arith, longs)))))))
      | inr ne ↦
          ap (view_of cells') (get_or-set_other rows v i new d ne)
          ∙ (row-set cells row.next x (slices_for (get_or rows i d).degree) _ _ (r.others i d lt ne).keeps.fits (others_put rows old cells used v was row x r i d lt ne)
          ∙ (r.others_same i d lt ne
          ∙ (sym (get_or-map (view_of old) rows i d [] lt)
          ∙ (ap (λ (l : List (List ℕ)). get_or l i []) seen ∙ sym (get_or-set_other lists v i (cells_of lists v ++ x ∷ []) [] ne)))))
    ])

-- what the rows cost is what their lists need
pub cut-rows : (cells : List ℕ) (rows : List Row) → cut_for (map (view_of cells) rows) ≡ sum_by (λ (row : Row). spent (row.degree + 2)) rows
cut-rows cells [] = refl
cut-rows cells (row ∷ rows) =
    sum_by-cons (λ (l : List ℕ). spent (length l + 2)) (view_of cells row) (map (view_of cells) rows)
    ∙ (omega (arith, cut-rows cells rows, ap (λ n. spent (n + 2)) (length-row cells row.first row.degree))
    ∙ sym (sum_by-cons (λ (r : Row). spent (r.degree + 2)) row rows))

-- the list of a vertex is what its row holds
pub held_row : (rows : List Row) (cells : List ℕ) (lists : List (List ℕ)) (v : ℕ) (row : Row) → map (view_of cells) rows ≡ lists → v < length rows → row ≡ get_or rows v row → cells_of lists v ≡ view_of cells row
held_row rows cells lists v row seen within read =
    ap (λ (l : List (List ℕ)). get_or l v []) (sym seen) ∙ (get_or-map (view_of cells) rows v row [] within ∙ ap (view_of cells) (sym read))

zero_sum : (f : Row → ℕ) (rows : List Row) → ((k : ℕ) (d : Row) → k < length rows → f (get_or rows k d) ≡ 0) → sum_by f rows ≡ 0
zero_sum f [] h = refl
zero_sum f (row ∷ rows) h =
    sum_by-cons f row rows ∙ omega (arith, h 0 row (omega arith), zero_sum f rows (λ (k : ℕ) (d : Row) (lt : k < length rows). h (suc k) d (omega arith)))

-- rows with no slice
pub no_slices : (rows : List Row) (cells : List ℕ) → length cells ≤ 196608 → ((v : ℕ) (d : Row) → v < length rows → ((get_or rows v d).degree ≡ 0) × ((get_or rows v d).full ≡ 0)) → AreSlices rows cells 0
no_slices rows cells small none = record {
  small = small;
  within = omega arith;
  cut = sym (zero_sum (λ (row : Row). spent (row.degree + 2)) rows (λ k d h. ap (λ n. spent (n + 2)) (none k d h).0 ∙ spent-first));
  apart = record {
    whose = λ _. 0;
    which = λ _. 0;
    each = λ v d h.
        (let row : Row = get_or rows v d in
        let e : row.degree ≡ 0 = (none v d h).0 in
        let n : slices_for row.degree ≡ 0 = ap slices_for e ∙ slices-zero in
        record {
          full = rw n (omega (arith, (none v d h).1, size-zero));
          keeps = rw n (record {
            fits = omega (arith, e, size-zero);
            begun = λ m f. absurd (omega arith);
            next_is = λ m f. absurd (omega arith);
            inside = λ m f. absurd (omega arith);
            owned = λ m o f le. absurd (omega arith);
            placed = λ m o f le. absurd (omega arith);
          });
        });
  };
}

pub no_lists : (rows : List Row) (cells : List ℕ) → ((v : ℕ) (d : Row) → v < length rows → (get_or rows v d).degree ≡ 0) → map (view_of cells) rows ≡ replicate (length rows) []
no_lists [] cells none = refl
no_lists (row ∷ rows) cells none =
    ap (λ (l : List ℕ). l ∷ map (view_of cells) rows) (ap (row_cells cells row.first) (none 0 row (omega arith)) ∙ nil_row cells row.first)
    ∙ ap (λ (l : List (List ℕ)). [] ∷ l) (no_lists rows cells (λ (k : ℕ) (d : Row) (lt : k < length rows). none (suc k) d (omega arith)))

-- rows that are all alike, with no slice
pub none_alike : (rows : List Row) (n : ℕ) (row : Row) → rows ≡ replicate n row → row.degree ≡ 0 → row.full ≡ 0 → (v : ℕ) (d : Row) → v < length rows → ((get_or rows v d).degree ≡ 0) × ((get_or rows v d).full ≡ 0)
none_alike rows n row alike degree full v d h =
    let lt : v < n = omega (arith, h, ap length alike, length-replicate n row) in
    let e : get_or rows v d ≡ row = ap (λ (l : List Row). get_or l v d) alike ∙ get_or-replicate n v row d lt in
    (ap (λ (r : Row). r.degree) e ∙ degree, ap (λ (r : Row). r.full) e ∙ full)
