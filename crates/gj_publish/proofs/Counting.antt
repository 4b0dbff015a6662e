-- The entries of each seat, counted.
use Rattle.std.proofs.Common.{◌≡◌, ◌≢◌, ◌⊎◌, inl, inr, ℕ, ◌+◌, ◌<◌, ◌≤◌, ◌==◌, Bool, cond, List, [], ◌∷◌, length, map, replicate, slice_index_or, slice_set, refl, sym, ap, ◌∙◌, subst, arith}
use Rattle.std.proofs.lemmas.Bool.{eq-eqb, ne_eqb, cases_eq}
use Rattle.std.proofs.lemmas.List.{get_or-set_same, get_or-set_other, get_or-replicate, length-replicate, length-set}
use Rattle.std.proofs.lemmas.List.Sums.{sum_by-append, count_by-le-length}
use Rattle.std.specs.List.{count_by}
use Rattle.gj_base.specs.declared.item.Entry.{Entry}
use Rattle.gj_base.specs.declared.item.Item.{Item}
use Rattle.gj_base.specs.declared.keeper.KeptItem.{KeptItem}
use Rattle.gj_base.specs.declared.history.History.{History}
use Rattle.gj_base.specs.History.{entries_by, extend, length_of}
use Rattle.gj_keep.specs.Rows.{opened, item_of}
use Rattle.gj_publish.specs.Writers.{by_seat, IsCounted}

abbrev is_by : ℕ → Entry → Bool
is_by k e = e.by == k

count_same : (k : ℕ) (xs : List Item) → count_by (is_by k) (entries_by k xs) ≡ length xs
count_same k [] = refl
count_same k (x ∷ xs) =
    let n : ℕ = cond (k == k) 1 0 in
    let one : n ≡ 1 = ap (λ (b : Bool). cond {A = ℕ} b 1 0) (eq-eqb k k refl) in
    let step : count_by (is_by k) (entries_by k (x ∷ xs)) ≡ 0 + n + count_by (is_by k) (entries_by k xs) = sum_by-append (λ (e : Entry). cond (e.by == k) 1 0) (entries_by k (x ∷ [])) (entries_by k xs) in
    omega (arith, step, one, count_same k xs)

count_other : (j k : ℕ) (xs : List Item) → k ≢ j → count_by (is_by j) (entries_by k xs) ≡ 0
count_other j k [] apart = refl
count_other j k (x ∷ xs) apart =
    let n : ℕ = cond (k == j) 1 0 in
    let none : n ≡ 0 = ap (λ (b : Bool). cond {A = ℕ} b 1 0) (ne_eqb k j apart) in
    let step : count_by (is_by j) (entries_by k (x ∷ xs)) ≡ 0 + n + count_by (is_by j) (entries_by k xs) = sum_by-append (λ (e : Entry). cond (e.by == j) 1 0) (entries_by k (x ∷ [])) (entries_by k xs) in
    omega (arith, step, none, count_other j k xs apart)

pub count_more : (k : ℕ) (h : History) (xs : List Item) → by_seat k (extend h (entries_by k xs)) ≡ by_seat k h + length xs
count_more k h xs =
    let joined : by_seat k (extend h (entries_by k xs)) ≡ by_seat k h + count_by (is_by k) (entries_by k xs) = sum_by-append (λ (e : Entry). cond (e.by == k) 1 0) h.entries (entries_by k xs) in
    omega (arith, joined, count_same k xs)

count_else : (j k : ℕ) (h : History) (xs : List Item) → k ≢ j → by_seat j (extend h (entries_by k xs)) ≡ by_seat j h
count_else j k h xs apart =
    let joined : by_seat j (extend h (entries_by k xs)) ≡ by_seat j h + count_by (is_by j) (entries_by k xs) = sum_by-append (λ (e : Entry). cond (e.by == j) 1 0) h.entries (entries_by k xs) in
    omega (arith, joined, count_other j k xs apart)

-- no seat posted more than there is
pub count_few : (k : ℕ) (h : History) → by_seat k h ≤ length_of h
count_few k h = let few = count_by-le-length (is_by k) h.entries in omega (arith, few)

-- at opening nothing was posted
pub counted_none : (n : ℕ) (rows : List KeptItem) → IsCounted n (replicate n 0) (opened rows)
counted_none n rows = record {
  all = length-replicate n 0;
  each = λ i low.
      let none : by_seat (i + 1) (opened rows) ≡ 0 = count_other (i + 1) 0 (map item_of rows) (λ e. omega (arith, e)) in
      get_or-replicate n i 0 0 low ∙ sym none;
}

counted_at : (k i n : ℕ) (xs : List ℕ) (h : History) (items : List Item) → IsCounted n xs h → k < n → i < n → (i ≡ k) ⊎ (i ≢ k)
    → slice_index_or (slice_set xs k (slice_index_or xs k 0 + length items)) i 0 ≡ by_seat (i + 1) (extend h (entries_by (k + 1) items))
counted_at k i n xs h items is low here (inl same) =
    let inside : k < length xs = omega (arith, is.all) in
    let now : slice_index_or (slice_set xs k (slice_index_or xs k 0 + length items)) k 0 ≡ slice_index_or xs k 0 + length items = get_or-set_same xs k (slice_index_or xs k 0 + length items) 0 inside in
    let all : slice_index_or (slice_set xs k (slice_index_or xs k 0 + length items)) k 0 ≡ by_seat (k + 1) (extend h (entries_by (k + 1) items)) = now ∙ (ap (λ m. m + length items) (is.each k low) ∙ sym (count_more (k + 1) h items)) in
    subst (λ (m : ℕ). slice_index_or (slice_set xs k (slice_index_or xs k 0 + length items)) m 0 ≡ by_seat (m + 1) (extend h (entries_by (k + 1) items))) (sym same) all
counted_at k i n xs h items is low here (inr apart) =
    get_or-set_other xs k i (slice_index_or xs k 0 + length items) 0 apart ∙ (is.each i here ∙ sym (count_else (i + 1) (k + 1) h items (λ e. apart (omega (arith, e)))))

-- a batch raises the number of its seat alone
pub counted_more : (k n : ℕ) (xs : List ℕ) (h : History) (items : List Item) → IsCounted n xs h → k < n
    → IsCounted n (slice_set xs k (slice_index_or xs k 0 + length items)) (extend h (entries_by (k + 1) items))
counted_more k n xs h items is low = record {
  all = length-set xs k (slice_index_or xs k 0 + length items) ∙ is.all;
  each = λ i here. counted_at k i n xs h items is low here (cases_eq i k);
}
