-- A window and an interaction more.
use Rattle.std.proofs.Common.{◌≡◌, ◌≢◌, ℕ, ◌+◌, ◌-◌, ◌*◌, ◌/◌, ◌%◌, ◌^◌, ◌<◌, ◌≤◌, ◌⊎◌, inl, inr, ◌∙◌, List, [], ◌∷◌, ◌++◌, length, drop, refl, arith, sym, ap, subst, Bool}
use Rattle.std.proofs.lemmas.Bool.{cases_lt}
use Rattle.gj_base.specs.declared.item.Item.{Item}
use Rattle.gj_base.specs.declared.history.Shown.{Shown}
use Rattle.gj_base.specs.Configuration.{Configuration, IsConfiguration}
use Rattle.gj_base.specs.History.{IsWindow, base, end_of, more, empty_shown}
use Rattle.gj_base.proofs.Windows.{slid, slid_is, window_few, empty_is}
use Rattle.gj_window.specs.Segments.{Segmented, items_of, shown_from, going}
use Rattle.gj_window.proofs.FieldLemmas.{none_goes, one_goes}
use Rattle.gj_window.proofs.NumberLemmas.{base_next, base_stays}

-- how far the base moves by the next interaction
moves : (first : ℕ) (s : Segmented) → IsWindow (shown_from first s) → base s.conf.capacity s.conf.segments (end_of (shown_from first s) + 1) - first ≡ going s
unfolding base
moves first s is =
    let w : Shown = shown_from first s in
    let few = window_few w is in
    let aligned = is.aligned in
    let low = is.configuration.capacity_low in
    let n : first + length (items_of s) + 1 - 1 ≡ first + length (items_of s) = omega arith in
    elim (cases_lt (length (items_of s)) (s.conf.capacity * s.conf.segments)) [
      | inl below ↦
          let stays = base_stays s.conf.capacity s.conf.segments first (length (items_of s)) aligned below in
          let none = none_goes s below in
          rw n (omega (arith, stays, none))
      | inr past ↦
          let full : length (items_of s) ≡ s.conf.capacity * s.conf.segments = omega (arith, few, past) in
          let next = base_next s.conf.capacity s.conf.segments first (omega arith) aligned in
          let at : s.conf.capacity * (((first + length (items_of s) + 1 - 1) / s.conf.capacity + 1) - s.conf.segments) ≡ first + s.conf.capacity =
          ap (λ (m : ℕ). s.conf.capacity * ((m / s.conf.capacity + 1) - s.conf.segments)) (n ∙ ap (λ (k : ℕ). first + k) full) ∙ next in
          ap (λ (b : ℕ). b - first) at ∙ ((let e : first + s.conf.capacity - first ≡ s.conf.capacity = omega arith in e) ∙ sym (one_goes s full))
    ]

pub same_shown : (first : ℕ) (t s : Segmented) → t.conf ≡ s.conf → items_of t ≡ items_of s → shown_from first t ≡ shown_from first s
same_shown first t s conf items = λ i. record { capacity = (conf i).capacity; segments = (conf i).segments; first = first; items = items i }

pub same_window : (first : ℕ) (t s : Segmented) → t.conf ≡ s.conf → items_of t ≡ items_of s → IsWindow (shown_from first s) → IsWindow (shown_from first t)
same_window first t s conf items is = subst IsWindow (sym (same_shown first t s conf items)) is

other_conf : (first : ℕ) (t s : Segmented) → t.conf ≡ s.conf
    → shown_from first t ≡ record { capacity = s.conf.capacity; segments = s.conf.segments; first = first; items = items_of t }
other_conf first t s conf = λ i. record { capacity = (conf i).capacity; segments = (conf i).segments; first = first; items = items_of t }

-- the segments after an interaction more show the window with it
pub added : (first went : ℕ) (t s : Segmented) (x : Item) → IsWindow (shown_from first s) → went ≡ going s → t.conf ≡ s.conf
    → items_of t ≡ drop went (items_of s) ++ x ∷ [] → shown_from (first + went) t ≡ more (shown_from first s) (x ∷ [])
added first went t s x is goes conf items =
    let w : Shown = shown_from first s in
    let b : ℕ = base s.conf.capacity s.conf.segments (end_of w + 1) in
    let gap : b - first ≡ went = moves first s is ∙ sym goes in
    let at : first + went ≡ first + (b - first) = ap (λ (k : ℕ). first + k) (sym gap) in
    let left : items_of t ≡ drop (b - first) (items_of s) ++ x ∷ [] = items ∙ ap (λ (k : ℕ). drop k (items_of s) ++ x ∷ []) (sym gap) in
    other_conf (first + went) t s conf ∙ slid w x b (first + went) (items_of t) is refl at left

pub added_is : (first went : ℕ) (t s : Segmented) (x : Item) → IsWindow (shown_from first s) → went ≡ going s → t.conf ≡ s.conf
    → items_of t ≡ drop went (items_of s) ++ x ∷ [] → end_of (shown_from first s) < 2 ^ 48 → IsWindow (shown_from (first + went) t)
added_is first went t s x is goes conf items room =
    let w : Shown = shown_from first s in
    let b : ℕ = base s.conf.capacity s.conf.segments (end_of w + 1) in
    let gap : b - first ≡ went = moves first s is ∙ sym goes in
    let at : first + went ≡ first + (b - first) = ap (λ (k : ℕ). first + k) (sym gap) in
    let left : items_of t ≡ drop (b - first) (items_of s) ++ x ∷ [] = items ∙ ap (λ (k : ℕ). drop k (items_of s) ++ x ∷ []) (sym gap) in
    subst IsWindow (sym (other_conf (first + went) t s conf)) (slid_is w x b (first + went) (items_of t) is refl at left room)

-- a window that has no interaction yet
pub begun : (first : ℕ) (s : Segmented) (conf : Configuration) → s.conf ≡ conf → items_of s ≡ [] → IsConfiguration conf.capacity conf.segments → first % conf.capacity ≡ 0
    → first < 2 ^ 48 → IsWindow (shown_from first s)
begun first s conf e none in_range aligned room =
    let same : shown_from first s ≡ empty_shown conf first = λ i. record { capacity = (e i).capacity; segments = (e i).segments; first = first; items = none i } in
    subst IsWindow (sym same) (empty_is conf first in_range aligned room)
