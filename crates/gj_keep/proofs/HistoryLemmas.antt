-- Of which histories a store's rows are.
use Rattle.std.proofs.Common.{◌≡◌, ℕ, zero, suc, ◌+◌, ◌-◌, ◌%◌, ◌≤◌, ◌<◌, max, true, List, [], ◌∷◌, ◌++◌, length, map, take, drop, get_or, refl, sym, ap, ◌∙◌, subst, le_refl, arith, length-append, length-drop, length-take}
use Rattle.std.proofs.lemmas.List.{drop-drop, drop-append-le, map-append, length-map}
use Rattle.gj_base.specs.declared.item.Item.{Item}
use Rattle.gj_base.specs.declared.item.Entry.{Entry}
use Rattle.gj_base.specs.declared.keeper.KeptItem.{KeptItem}
use Rattle.gj_base.specs.declared.history.History.{History}
use Rattle.gj_base.specs.declared.history.Shown.{Shown}
use Rattle.gj_base.specs.Configuration.{Configuration}
use Rattle.gj_base.specs.History.{base, items_of, length_of, extend, entries_by, windowed, window, more, conf_of, empty_shown, StandsFor}
use Rattle.gj_base.specs.Kept.{placed, row_of}
use Rattle.gj_base.proofs.Windows.{base_mono, base_aligned, base_le, items_back, more_conf, take_one_more}
use Rattle.gj_keep.specs.Rows.{first_place, item_of, opened, good}
use Rattle.gj_keep.specs.Books.{KeepsFrom}
use Rattle.gj_keep.proofs.RowLemmas.{placed_items, items_placed, placed_length}
use Rattle.gj_keep.proofs.StoreLemmas.{Sound, sound_of, base_before}

pub placed_append : (p : ℕ) (xs ys : List Item) → placed p (xs ++ ys) ≡ placed p xs ++ placed (p + length xs) ys
placed_append p [] ys = ap (λ (n : ℕ). placed n ys) (let e : p ≡ p + 0 = omega arith in e)
placed_append p (x ∷ xs) ys =
    let here : KeptItem = row_of p x in
    let e : (p + 1) + length xs ≡ p + length (x ∷ xs) = omega arith in
    ap (λ (rs : List KeptItem). here ∷ rs) (placed_append (p + 1) xs ys ∙ ap (λ (n : ℕ). placed (p + 1) xs ++ placed n ys) e)

placed_drop : (n p : ℕ) (xs : List Item) → drop n (placed p xs) ≡ placed (p + n) (drop n xs)
placed_drop zero p xs = ap (λ (q : ℕ). placed q xs) (let e : p ≡ p + 0 = omega arith in e)
placed_drop (suc n) p [] = refl
placed_drop (suc n) p (x ∷ xs) =
    placed_drop n (p + 1) xs ∙ ap (λ (q : ℕ). placed q (drop n xs)) (let e : (p + 1) + n ≡ p + suc n = omega arith in e)

-- rows that go to the window's base are those of the history still
pub keeps_trimmed : (c s p at : ℕ) (rows : List KeptItem) (h : History) → KeepsFrom c s p rows h → p ≤ at → at ≡ base c s (length_of h)
    → KeepsFrom c s at (drop (at - p) rows) h
keeps_trimmed c s p at rows h k low e =
    let below = k.not_before in
    let xs : List Item = items_of h.entries in
    let gap : (p - h.first) + (at - p) ≡ at - h.first = omega arith in
    let here : p + (at - p) ≡ at = omega arith in
    record {
      aligned = ap (λ (n : ℕ). n % c) e ∙ base_aligned c s (length_of h);
      not_before = omega arith;
      not_behind = omega arith;
      rows_are = ap (drop (at - p)) k.rows_are ∙ (placed_drop (at - p) p (drop (p - h.first) xs) ∙ (λ i. placed (here i) ((drop-drop (at - p) (p - h.first) xs ∙ ap (λ (n : ℕ). drop n xs) gap) i)));
    }

kept_length : (c s p : ℕ) (rows : List KeptItem) (h : History) → KeepsFrom c s p rows h → length rows ≡ length h.entries - (p - h.first)
kept_length c s p rows h k =
    ap length k.rows_are ∙ (placed_length p (drop (p - h.first) (items_of h.entries)) ∙ (length-drop (p - h.first) (items_of h.entries) ∙ ap (λ (m : ℕ). m - (p - h.first)) (length-map h.entries (λ (x : Entry). x.item))))

-- a batch at the end keeps the longer history
pub keeps_longer : (c s p n : ℕ) (rows : List KeptItem) (h : History) (by : ℕ) (items : List Item) → 0 < c → 1 ≤ s → KeepsFrom c s p rows h → length_of h ≡ n
    → KeepsFrom c s p (rows ++ placed n items) (extend h (entries_by by items))
keeps_longer c s p n rows h by items pos some k is =
    let low = k.not_before in
    let high = k.not_behind in
    let b : ℕ = base c s (length_of h) in
    let before : b ≤ length_of h - 1 = base_before c s (length_of h) some in
    let longer : length_of h ≤ length_of (extend h (entries_by by items)) = omega (arith, length-append h.entries (entries_by by items)) in
    let grows : b ≤ base c s (length_of (extend h (entries_by by items))) = base_mono c s (length_of h) (length_of (extend h (entries_by by items))) pos longer in
    let xs : List Item = items_of h.entries in
    let cut : p - h.first ≤ length xs = omega (arith, length-map h.entries (λ (x : Entry). x.item)) in
    let size : length (drop (p - h.first) xs) ≡ length h.entries - (p - h.first) = length-drop (p - h.first) xs ∙ ap (λ (m : ℕ). m - (p - h.first)) (length-map h.entries (λ (x : Entry). x.item)) in
    let last : n ≡ p + length (drop (p - h.first) xs) = omega arith in
    let joined : items_of (h.entries ++ entries_by by items) ≡ xs ++ items = map-append (λ (x : Entry). x.item) h.entries (entries_by by items) ∙ ap (λ (ys : List Item). xs ++ ys) (items_back by items) in
    record {
      aligned = k.aligned;
      not_before = low;
      not_behind = omega arith;
      rows_are =
          (λ i. k.rows_are i ++ placed (last i) items) ∙ (sym (placed_append p (drop (p - h.first) xs) items) ∙ ap (placed p) (sym (drop-append-le (p - h.first) xs items cut) ∙ ap (drop (p - h.first)) (sym joined)));
    }

pub opened_items : (rows : List KeptItem) → items_of (opened rows).entries ≡ map item_of rows
opened_items rows = items_back 0 (map item_of rows)

pub opened_length : (rows : List KeptItem) → length_of (opened rows) ≡ first_place rows + length rows
opened_length rows =
    ap (λ (n : ℕ). first_place rows + n) (length-map (map item_of rows) (λ (x : Item). record { item = x; by = 0 }) ∙ length-map rows item_of)

-- good rows are those of the history that they open
pub keeps_opened : (conf : Configuration) (rows : List KeptItem) → good conf rows ≡ true → KeepsFrom conf.capacity conf.segments (first_place rows) rows (opened rows)
keeps_opened conf rows is =
    let sound : Sound conf rows = sound_of conf rows is in
    let p : ℕ = first_place rows in
    let none : 0 ≡ p - p = omega arith in
    let total : base conf.capacity conf.segments (p + length rows) ≡ base conf.capacity conf.segments (length_of (opened rows)) = ap (base conf.capacity conf.segments) (sym (opened_length rows)) in
    let begins = sound.low in
    record {
      aligned = sound.aligned;
      not_before = le_refl p;
      not_behind = omega arith;
      rows_are = sym (placed_items p rows sound.follow) ∙ ap (placed p) (sym (opened_items rows) ∙ ap (λ (n : ℕ). drop n (items_of (opened rows).entries)) none);
    }

first_given : (p : ℕ) (row : KeptItem) (rows : List KeptItem) (xs : List Item) → row ∷ rows ≡ placed p xs → row.place ≡ p
first_given p row rows [] e = cc
first_given p row rows (x ∷ xs) e = ap first_place e

first_kept : (c s p : ℕ) (rows : List KeptItem) (h : History) → 1 ≤ s → KeepsFrom c s p rows h → first_place rows ≡ p
first_kept c s p [] h some k =
    let count = kept_length c s p [] h k in
    let low = k.not_before in
    let high = k.not_behind in
    let before : base c s (length_of h) ≤ length_of h - 1 = base_before c s (length_of h) some in
    let in_all : base c s (length_of h) ≤ length_of h = base_le c s (length_of h) some in
    omega arith
first_kept c s p (row ∷ rows) h some k = first_given p row rows (drop (p - h.first) (items_of h.entries)) k.rows_are

-- a window doesn't need what is before its base
windowed_from : (c s f p : ℕ) (xs : List Item) → f ≤ p → p ≤ f + length xs → p ≤ base c s (f + length xs) → windowed c s p (drop (p - f) xs) ≡ windowed c s f xs
unfolding windowed
windowed_from c s f p xs low within high =
    let n : ℕ = f + length xs in
    let b : ℕ = base c s n in
    let count : p + length (drop (p - f) xs) ≡ n = omega (arith, length-drop (p - f) xs) in
    let same : base c s (p + length (drop (p - f) xs)) ≡ b = ap (base c s) count in
    let from : max p (base c s (p + length (drop (p - f) xs))) ≡ max f b = omega arith in
    let gap : (p - f) + (max p (base c s (p + length (drop (p - f) xs))) - p) ≡ max f b - f = omega arith in
    λ i. record { capacity = c; segments = s; first = from i; items = (drop-drop (max p (base c s (p + length (drop (p - f) xs))) - p) (p - f) xs ∙ ap (λ (k : ℕ). drop k xs) gap) i }

-- the history that rows open has the window of each history that the rows are of
pub window_opened : (c s p : ℕ) (rows : List KeptItem) (h : History) → 1 ≤ s → KeepsFrom c s p rows h → window c s (opened rows) ≡ window c s h
window_opened c s p rows h some k =
    let xs : List Item = items_of h.entries in
    let first : first_place rows ≡ p = first_kept c s p rows h some k in
    let items : items_of (opened rows).entries ≡ drop (p - h.first) xs = opened_items rows ∙ (ap (map item_of) k.rows_are ∙ items_placed p (drop (p - h.first) xs)) in
    let count : h.first + length xs ≡ length_of h = ap (λ (n : ℕ). h.first + n) (length-map h.entries (λ (x : Entry). x.item)) in
    let low = k.not_before in
    let high = k.not_behind in
    let in_all : base c s (length_of h) ≤ length_of h = base_le c s (length_of h) some in
    let same : base c s (h.first + length xs) ≡ base c s (length_of h) = ap (base c s) count in
    (λ i. windowed c s (first i) (items i)) ∙ windowed_from c s h.first p xs low (omega arith) (omega arith)

-- rows that are those of a history are so from their first place
pub keeps_first : (c s p : ℕ) (rows : List KeptItem) (h : History) → 1 ≤ s → KeepsFrom c s p rows h → KeepsFrom c s (first_place rows) rows h
keeps_first c s p rows h some k = let P : ℕ → Type 0 = λ q. KeepsFrom c s q rows h in subst P (sym (first_kept c s p rows h some k)) k

pub length_kept : (c s p : ℕ) (rows : List KeptItem) (h : History) → 1 ≤ s → KeepsFrom c s p rows h → length_of h ≡ first_place rows + length rows
length_kept c s p rows h some k =
    let count = kept_length c s p rows h k in
    let first = first_kept c s p rows h some k in
    let low = k.not_before in
    let high = k.not_behind in
    let in_all : base c s (length_of h) ≤ length_of h = base_le c s (length_of h) some in
    omega arith

-- a graph that was filled with the interactions of rows stands for the history that they open
pub filled_stands : (w : Shown) (conf : Configuration) (rows : List KeptItem) → w ≡ more (empty_shown conf (first_place rows)) (map item_of rows)
    → StandsFor w (opened rows)
unfolding windowed
filled_stands w conf rows is =
    let P : Shown → Type 0 = λ v. StandsFor v (opened rows) in
    subst P (sym is) (ap (windowed conf.capacity conf.segments (first_place rows)) (sym (opened_items rows)))

pub filled_conf : (w : Shown) (conf : Configuration) (rows : List KeptItem) → w ≡ more (empty_shown conf (first_place rows)) (map item_of rows)
    → conf_of w ≡ conf
filled_conf w conf rows is = ap conf_of is ∙ more_conf (empty_shown conf (first_place rows)) (map item_of rows)

pub stands_again : (w : Shown) (conf : Configuration) (rows : List KeptItem) (h : History) → conf_of w ≡ conf → window conf.capacity conf.segments (opened rows) ≡ window conf.capacity conf.segments h
    → StandsFor w (opened rows) → StandsFor w h
stands_again w conf rows h is same stands =
    stands ∙ ((λ i. window (is i).capacity (is i).segments (opened rows)) ∙ (same ∙ (λ i. window (sym is i).capacity (sym is i).segments h)))

-- one interaction more, and one row more
pub placed_more : (from i : ℕ) (items : List Item) (x : Item) → i < length items → x ≡ get_or items i x → placed from (take (i + 1) items) ≡ placed from (take i items) ++ row_of (from + i) x ∷ []
placed_more from i items x low is =
    let count : from + length (take i items) ≡ from + i = omega (arith, length-take i items) in
    ap (placed from) (take_one_more items i x low is) ∙ (placed_append from (take i items) (x ∷ []) ∙ ap (λ (p : ℕ). placed from (take i items) ++ row_of p x ∷ []) count)
