-- Slices that hold no cell that is another's: what a write to one leaves, and what a new one adds.
use Rattle.std.proofs.Common.{◌≡◌, ◌≢◌, ℕ, zero, suc, ◌+◌, ◌-◌, ◌<◌, ◌≤◌, List, length, get_or, set, map, refl, ap, sym, ◌∙◌, arith, inl, inr}
use Rattle.std.specs.List.{range_with_len}
use Rattle.std.proofs.lemmas.Bool.{cases_lt}
use Rattle.std.proofs.lemmas.List.{get_or-set_other, ext_get_or}
use Rattle.std.proofs.lemmas.List.FromFn.{length-map-range_with_len, get_or-map-range_with_len}
use Rattle.gj_pool.specs.Slices.{slice_size, slice_start, slice_of, address_of, row_cells, RowKeeps}
use Rattle.gj_pool.proofs.LevelLemmas.{size-suc, size_below, slice_is}

pub start-suc : (cells : List ℕ) (first m : ℕ) → slice_start cells first (suc m) ≡ get_or cells (slice_start cells first m + slice_size m) 0
unfolding slice_start
start-suc cells first m = refl

pub start-zero : (cells : List ℕ) (first : ℕ) → slice_start cells first 0 ≡ first
unfolding slice_start
start-zero cells first = refl

-- a write beside the links that lead to a slice leaves its start
start-set : (cells : List ℕ) (a x first m : ℕ) → ((k : ℕ) → k < m → slice_start cells first k + slice_size k ≢ a) → slice_start (set cells a x) first m ≡ slice_start cells first m
start-set cells a x first zero misses = start-zero (set cells a x) first ∙ sym (start-zero cells first)
start-set cells a x first (suc m) misses =
    let before = start-set cells a x first m (λ (k : ℕ) (h : k < m). misses k (omega arith)) in
    start-suc (set cells a x) first m
    ∙ (ap (λ n. get_or (set cells a x) (n + slice_size m) 0) before
    ∙ (get_or-set_other cells a (slice_start cells first m + slice_size m) x 0 (misses m (omega arith))
    ∙ sym (start-suc cells first m)))

-- an address that is no link of the first n slices but the last, and no place in use
pub record Misses (cells : List ℕ) (n first degree a : ℕ) : Type 0 where
  pub links : (k : ℕ) → suc k < n → slice_start cells first k + slice_size k ≢ a
  pub reads : (j : ℕ) → j < degree → address_of cells first j ≢ a

pub start-misses : (cells : List ℕ) (a x n first degree m : ℕ) → Misses cells n first degree a → m < n → slice_start (set cells a x) first m ≡ slice_start cells first m
start-misses cells a x n first degree m misses h = start-set cells a x first m (λ k lt. misses.links k (omega arith))

-- a place in use lies in one of the slices
pub slice_of_held : (degree n j : ℕ) → degree + 4 ≤ slice_size n → j < degree → slice_of j < n
slice_of_held degree n j fits h = size_below (slice_of j) n (j + 4) (slice_is j).1 (omega arith)

pub address-is : (cells : List ℕ) (first place : ℕ) → address_of cells first place ≡ slice_start cells first (slice_of place) + (place + 4 - slice_size (slice_of place))
unfolding address_of
address-is cells first place = refl

pub row-is : (cells : List ℕ) (first degree : ℕ) → row_cells cells first degree ≡ map (λ place. get_or cells (address_of cells first place) 0) (range_with_len 0 degree)
unfolding row_cells
row-is cells first degree = refl

-- lists made alike
map-same : (f g : ℕ → ℕ) (n : ℕ) → ((j : ℕ) → j < n → f j ≡ g j) → map f (range_with_len 0 n) ≡ map g (range_with_len 0 n)
map-same f g n same =
    ext_get_or 0 _ _ (length-map-range_with_len f 0 n ∙ sym (length-map-range_with_len g 0 n))
    (λ i h.
    let lt : i < n = omega (arith, h, length-map-range_with_len f 0 n) in
    get_or-map-range_with_len f 0 n i i 0 lt (omega arith) ∙ (same i lt ∙ sym (get_or-map-range_with_len g 0 n i i 0 lt (omega arith))))

address-set : (cells : List ℕ) (a x n first degree j : ℕ) → degree + 4 ≤ slice_size n → Misses cells n first degree a → j < degree → address_of (set cells a x) first j ≡ address_of cells first j
address-set cells a x n first degree j fits misses h =
    address-is (set cells a x) first j
    ∙ (ap (λ s. s + (j + 4 - slice_size (slice_of j))) (start-misses cells a x n first degree (slice_of j) misses (slice_of_held degree n j fits h))
    ∙ sym (address-is cells first j))

-- a write beside a row's places and links leaves its cells
pub row-set : (cells : List ℕ) (a x n first degree : ℕ) → degree + 4 ≤ slice_size n → Misses cells n first degree a → row_cells (set cells a x) first degree ≡ row_cells cells first degree
row-set cells a x n first degree fits misses =
    row-is (set cells a x) first degree
    ∙ (map-same _ _ degree (λ j h. ap (λ i. get_or (set cells a x) i 0) (address-set cells a x n first degree j fits misses h) ∙ get_or-set_other cells a (address_of cells first j) x 0 (misses.reads j h))
    ∙ sym (row-is cells first degree))

pub length-row : (cells : List ℕ) (first degree : ℕ) → length (row_cells cells first degree) ≡ degree
length-row cells first degree = ap length (row-is cells first degree) ∙ length-map-range_with_len _ 0 degree

-- such a write keeps the row
pub keeps-set : (cells : List ℕ) (used : ℕ) (whose which : ℕ → ℕ) (v n first degree next a x : ℕ) → RowKeeps cells used whose which v n first degree next → Misses cells n first degree a → RowKeeps (set cells a x) used whose which v n first degree next
keeps-set cells used whose which v n first degree next a x r misses =
    let start = λ (m : ℕ) (h : m < n). start-misses cells a x n first degree m misses h in
    record {
      fits = r.fits;
      begun = r.begun;
      next_is = λ m e. (let h : m < n = omega arith in rw (start m h) (r.next_is m e));
      inside = λ m h. rw (start m h) (r.inside m h);
      owned = λ m o h le. rw (start m h) (r.owned m o h le);
      placed = λ m o h le. rw (start m h) (r.placed m o h le);
    }

-- owners of cells not yet in use may be chosen anew
pub keeps-more : (cells : List ℕ) (used more : ℕ) (whose which whose' which' : ℕ → ℕ) (v n first degree next : ℕ) → used ≤ more → ((a : ℕ) → a < used → whose' a ≡ whose a) → ((a : ℕ) → a < used → which' a ≡ which a) → RowKeeps cells used whose which v n first degree next → RowKeeps cells more whose' which' v n first degree next
keeps-more cells used more whose which whose' which' v n first degree next le same same' r = record {
  fits = r.fits;
  begun = r.begun;
  next_is = r.next_is;
  inside = λ m h. omega (arith, r.inside m h);
  owned = λ m o h within. same (slice_start cells first m + o) (omega (arith, r.inside m h)) ∙ r.owned m o h within;
  placed = λ m o h within. same' (slice_start cells first m + o) (omega (arith, r.inside m h)) ∙ r.placed m o h within;
}

-- a full row, with one more slice, which its last link names
pub keeps-slice : (cells : List ℕ) (used : ℕ) (whose which : ℕ → ℕ) (v n first degree next : ℕ) → RowKeeps cells (used + slice_size n + 1) whose which v n first degree next → degree + 4 ≡ slice_size n → slice_start cells first n ≡ used → ((o : ℕ) → o ≤ slice_size n → whose (used + o) ≡ v) → ((o : ℕ) → o ≤ slice_size n → which (used + o) ≡ n) → RowKeeps cells (used + slice_size n + 1) whose which v (suc n) first degree used
keeps-slice cells used whose which v n first degree next r full start new_owner new_place = record {
  fits = omega (arith, full, size-suc n);
  begun = λ m e. (let q : m ≡ n = omega arith in rw q (omega (arith, full)));
  next_is = λ m e. (let q : m ≡ n = omega arith in rw (q, start) (omega (arith, full)));
  inside = λ m h. elim (cases_lt m n) [ inl lt ↦ r.inside m lt | inr le ↦ (let q : m ≡ n = omega arith in rw (q, start) (omega arith)) ];
  owned = λ m o h within. elim (cases_lt m n) [ inl lt ↦ r.owned m o lt within | inr le ↦ (let q : m ≡ n = omega arith in rw (q, start) (new_owner o (rw (sym q) within))) ];
  placed = λ m o h within. elim (cases_lt m n) [ inl lt ↦ r.placed m o lt within | inr le ↦ (let q : m ≡ n = omega arith in rw (q, start) (new_place o (rw (sym q) within))) ];
}

-- a row with room for one more, with one more
pub keeps-cell : (cells : List ℕ) (used : ℕ) (whose which : ℕ → ℕ) (v n first degree next : ℕ) → RowKeeps cells used whose which v n first degree next → degree + 4 < slice_size n → RowKeeps cells used whose which v n first (degree + 1) (next + 1)
keeps-cell cells used whose which v n first degree next r spare = record {
  fits = omega arith;
  begun = λ m e. omega (arith, r.begun m e);
  next_is = λ m e. omega (arith, r.next_is m e);
  inside = r.inside;
  owned = r.owned;
  placed = r.placed;
}

-- a cell of another vertex's slice is no link and no place of this one
pub misses_other : (cells : List ℕ) (used : ℕ) (whose which : ℕ → ℕ) (v n first degree next w a : ℕ) → RowKeeps cells used whose which v n first degree next → whose a ≡ w → v ≢ w → Misses cells n first degree a
misses_other cells used whose which v n first degree next w a r owner other = record {
  links = λ k h e. other (sym (r.owned k (slice_size k) (omega arith) (omega arith)) ∙ (ap whose e ∙ owner));
  reads = λ j h e.
      (let held : slice_of j < n = slice_of_held degree n j r.fits h in
      let le : j + 4 - slice_size (slice_of j) ≤ slice_size (slice_of j) = omega (arith, (slice_is j).2) in
      other (sym (r.owned (slice_of j) (j + 4 - slice_size (slice_of j)) held le) ∙ (ap whose (sym (address-is cells first j) ∙ e) ∙ owner)));
}

-- a cell of the last slice past those in use is no link and no place
pub misses_own : (cells : List ℕ) (used : ℕ) (whose which : ℕ → ℕ) (v m first degree next a : ℕ) → RowKeeps cells used whose which v (suc m) first degree next → which a ≡ m → a + slice_size m ≡ slice_start cells first m + (degree + 4) → Misses cells (suc m) first degree a
misses_own cells used whose which v m first degree next a r place at = record {
  links = λ k h e. (let q : k ≡ m = sym (r.placed k (slice_size k) (omega arith) (omega arith)) ∙ (ap which e ∙ place) in omega arith);
  reads = λ j h e.
      (let held : slice_of j < suc m = slice_of_held degree (suc m) j r.fits h in
      let le : j + 4 - slice_size (slice_of j) ≤ slice_size (slice_of j) = omega (arith, (slice_is j).2) in
      let f : slice_start cells first (slice_of j) + (j + 4 - slice_size (slice_of j)) ≡ a = sym (address-is cells first j) ∙ e in
      let q : slice_of j ≡ m = sym (r.placed (slice_of j) (j + 4 - slice_size (slice_of j)) held le) ∙ (ap which f ∙ place) in
      let low : slice_size m ≤ j + 4 = rw (sym q) ((slice_is j).1) in
      let g : slice_start cells first m + (j + 4 - slice_size m) ≡ a = rw (sym q) f in
      omega arith);
}
