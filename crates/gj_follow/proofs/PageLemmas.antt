-- The interactions of a page, one after another.
use Rattle.std.proofs.Common.{◌≡◌, ℕ, ◌+◌, ◌-◌, ◌≤◌, ◌<◌, min, List, [], ◌∷◌, ◌++◌, length, take, drop, get_or, Some, sym, ap, ◌∙◌, arith, length-drop, max, length-take}
use Rattle.std.specs.Prelude.{slice_get}
use Rattle.std.proofs.lemmas.List.{drop-drop, length-map, take_more, take_min, get_or-drop}
use Rattle.std.proofs.lemmas.Option.{slice_get_within, get_or_from_slice_get}
use Rattle.gj_base.specs.declared.history.History.{History}
use Rattle.gj_base.specs.declared.history.Shown.{Shown}
use Rattle.gj_base.specs.declared.item.Item.{Item}
use Rattle.gj_base.specs.History.{IsWindow, StandsFor, base, end_of, items_of, length_of, windowed}
use Rattle.gj_base.proofs.Windows.{stands_end}
use Rattle.gj_follow.specs.Follows.{IsOf}
use Rattle.gj_follow.specs.Pages.{items_from, page_from}

-- one more of those from a place on
pub one_more_from : {A : Type 0} (xs : List A) (k n : ℕ) (x : A) → slice_get xs (k + n) ≡ Some x → take (n + 1) (drop k xs) ≡ take n (drop k xs) ++ x ∷ []
one_more_from xs k n x e =
    let within : k + n < length xs = slice_get_within xs (k + n) x e in
    let cut : n < length (drop k xs) = omega (arith, length-drop k xs) in
    let same : get_or (drop k xs) n x ≡ x = get_or-drop k xs n x ∙ get_or_from_slice_get xs (k + n) x x e in
    take_more (drop k xs) n x cut ∙ ap (λ y. take n (drop k xs) ++ y ∷ []) same

pub items_more : {A : Type 0} (xs : List A) (first from place : ℕ) (x : A) → first ≤ from → from ≤ place → slice_get xs (place - first) ≡ Some x
    → take (place + 1 - from) (drop (from - first) xs) ≡ take (place - from) (drop (from - first) xs) ++ x ∷ []
items_more xs first from place x low more e =
    let count : place + 1 - from ≡ (place - from) + 1 = omega arith in
    let at : place - first ≡ (from - first) + (place - from) = omega arith in
    ap (λ (n : ℕ). take n (drop (from - first) xs)) count ∙ one_more_from xs (from - first) (place - from) x (ap (λ (i : ℕ). slice_get xs i) (sym at) ∙ e)

-- all from a place on, or the most
pub items_done : {A : Type 0} (xs : List A) (first from place : ℕ) → first ≤ from → from ≤ first + length xs → place ≡ min (first + length xs) (from + 1000)
    → take (place - from) (drop (from - first) xs) ≡ take 1000 (drop (from - first) xs)
items_done xs first from place low high at =
    let count : place - from ≡ min 1000 (length (drop (from - first) xs)) = omega (arith, length-drop (from - first) xs) in
    ap (λ (n : ℕ). take n (drop (from - first) xs)) count ∙ take_min 1000 (drop (from - first) xs)

-- a page of the window of a history is of this history
pub page_is_of : (w : Shown) (h : History) (from : ℕ) → IsWindow w → StandsFor w h → w.first ≤ from → from ≤ end_of w → IsOf h (page_from w from)
unfolding windowed
page_is_of w h from is stands low high =
    let all : List Item = items_of h.entries in
    let b : ℕ = base w.capacity w.segments (h.first + length all) in
    let first : w.first ≡ max h.first b = ap (λ (v : Shown). v.first) stands in
    let items : w.items ≡ drop (max h.first b - h.first) all = ap (λ (v : Shown). v.items) stands in
    let places : (max h.first b - h.first) + (from - w.first) ≡ from - h.first = omega arith in
    let rest : List Item = drop (from - h.first) all in
    let later : drop (from - w.first) w.items ≡ rest =
    ap (λ (xs : List Item). drop (from - w.first) xs) items ∙ (drop-drop (from - w.first) (max h.first b - h.first) all ∙ ap (λ (k : ℕ). drop k all) places) in
    let page : items_from w from ≡ take 1000 rest = ap (λ (xs : List Item). take 1000 xs) later in
    let count : length (items_from w from) ≡ min 1000 (length rest) = ap length page ∙ length-take 1000 rest in
    let long : length all ≡ length h.entries = length-map h.entries _ in
    let end : end_of w ≡ length_of h = stands_end w h is.configuration.segments_low stands in
    record {
      begins = omega arith;
      ends = omega (arith, length-drop (from - h.first) all);
      same = ap (λ (n : ℕ). take n rest) count ∙ (take_min 1000 rest ∙ sym page);
    }
