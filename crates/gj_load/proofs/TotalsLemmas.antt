-- What comes of a workload, as it is posted and walked over.
use Rattle.std.proofs.Common.{◌≡◌, ℕ, ◌∙◌, ◌+◌, ◌-◌, ◌/◌, ◌≤◌, ◌^◌, ◌<◌, List, [], ◌∷◌, ◌++◌, length, map, refl, sym, ap, ap₂, arith, add-one}
use Rattle.std.specs.Prelude.{Option}
use Rattle.std.proofs.lemmas.List.{map-append, length-map}
use Rattle.gj_base.specs.declared.item.Item.{Item}
use Rattle.gj_base.specs.declared.item.Entry.{Entry}
use Rattle.gj_base.specs.declared.history.History.{History}
use Rattle.gj_base.specs.declared.history.Shown.{Shown}
use Rattle.gj_base.specs.Configuration.{Configuration}
use Rattle.gj_base.specs.History.{StandsFor, base, conf_of, end_of, entries_by, extend, items_of, length_of, windowed}
use Rattle.gj_base.specs.Tally.{sum_of}
use Rattle.gj_base.proofs.Windows.{items_back, stands_end}
use Rattle.gj_load.specs.declared.totals.Totals.{Totals}
use Rattle.gj_load.specs.Totals.{history_of, visits_in, visits_sum, best_in, totals_of}
use Rattle.gj_load.specs.Workload.{number_after, items_from}
use Rattle.gj_load.proofs.WorkloadLemmas.{items_items, items_length}

joined : (a b : List Item) → extend (history_of a) (entries_by 0 b) ≡ history_of (a ++ b)
joined a b =
    let by_none : Item → Entry = λ x. record { item = x; by = 0 } in
    ap (λ (es : List Entry). record { first = 0; entries = es }) (sym (map-append by_none a b))

-- the history after one more batch
pub next_history : (number done batch x : ℕ) → x ≡ number_after number done
    → extend (history_of (items_from number done)) (entries_by 0 (items_from x batch)) ≡ history_of (items_from number (done + batch))
next_history number done batch x e =
    joined (items_from number done) (items_from x batch)
    ∙ ap history_of (ap (λ n. items_from number done ++ items_from n batch) e ∙ sym (items_items number done batch))

-- the length of the history so far
pub end_is : (w : Shown) (number done : ℕ) → 1 ≤ w.segments → StandsFor w (history_of (items_from number done)) → end_of w ≡ done
end_is w number done some stands =
    let by_none : Item → Entry = λ x. record { item = x; by = 0 } in
    let entries : length (entries_by 0 (items_from number done)) ≡ done = length-map (items_from number done) by_none ∙ items_length number done in
    let whole : end_of w ≡ length_of (history_of (items_from number done)) = stands_end w (history_of (items_from number done)) some stands in
    omega arith

pub sum_none : (window : List Item) (number count : ℕ) → 0 ≡ visits_sum window number count 0
unfolding visits_sum
sum_none window number count = refl

pub sum_next : (window : List Item) (number count walk : ℕ)
    → visits_sum window number count (walk + 1) ≡ visits_sum window number count walk + sum_of (visits_in window number count walk)
unfolding visits_sum
sum_next window number count walk = ap (visits_sum window number count) (add-one walk)

-- the totals, where each number is told over what is shown
pub totals_are : (conf : Configuration) (w : Shown) (number count batches from visits : ℕ) (best : Option (ℕ × ℕ))
    → conf_of w ≡ conf → StandsFor w (history_of (items_from number count)) → batches ≡ (count + 4095) / 4096 → from ≡ base conf.capacity conf.segments count
    → visits ≡ visits_sum w.items number count 100 → best ≡ best_in w.items number count 99
    → record { accepted = count; batches = batches; length = count; base = from; window = count - from; visits = visits; best = best } ≡ totals_of conf number count
unfolding totals_of
totals_are conf w number count batches from visits best c stands b f v best_is =
    let items = items_from number count in
    let capacity : w.capacity ≡ conf.capacity = ap (λ (x : Configuration). x.capacity) c in
    let segments : w.segments ≡ conf.segments = ap (λ (x : Configuration). x.segments) c in
    let own : w.items ≡ (windowed w.capacity w.segments 0 (items_of (entries_by 0 items))).items = ap (λ (x : Shown). x.items) stands in
    let shown : w.items ≡ (windowed conf.capacity conf.segments 0 items).items =
    own ∙ ap (λ xs. (windowed w.capacity w.segments 0 xs).items) (items_back 0 items)
    ∙ ap₂ (λ c s. (windowed c s 0 items).items) capacity segments in
    let make : ℕ → ℕ → ℕ → Option (ℕ × ℕ) → Totals =
    λ n at all one. record { accepted = count; batches = n; length = count; base = at; window = count - at; visits = all; best = one } in
    ap₂ (λ n at. make n at visits best) b f
    ∙ ap₂ (λ all one. make ((count + 4095) / 4096) (base conf.capacity conf.segments count) all one)
    (v ∙ ap (λ xs. visits_sum xs number count 100) shown) (best_is ∙ ap (λ xs. best_in xs number count 99) shown)
