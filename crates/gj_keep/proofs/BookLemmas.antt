-- What trims and batches make of a book.
use Rattle.std.proofs.Common.{Bool, ◌≡◌, ℕ, ◌+◌, ◌-◌, ◌^◌, ◌≤◌, ◌++◌, List, length, drop, filter, nat_le, sym, ap, ◌∙◌, subst, arith, length-append}
use Rattle.std.specs.Bool.{IsTrue}
use Rattle.std.proofs.lemmas.List.{length-map}
use Rattle.gj_base.specs.declared.item.Item.{Item}
use Rattle.gj_base.specs.declared.keeper.KeptItem.{KeptItem}
use Rattle.gj_base.specs.declared.history.History.{History}
use Rattle.gj_base.specs.Configuration.{Configuration, IsConfiguration}
use Rattle.gj_base.specs.History.{base, extend, entries_by, length_of}
use Rattle.gj_base.specs.Kept.{Kept, with_rows, placed, next_place}
use Rattle.gj_keep.specs.Rows.{first_place}
use Rattle.gj_keep.specs.Books.{BookKeeps, IsStore, KeepsFrom, trimmed}
use Rattle.gj_keep.proofs.RowLemmas.{InRange, filter_all}
use Rattle.gj_keep.proofs.StoreLemmas.{IsTrimmed, trimmed_is, IsLonger, longer_is, good_of, sound_of, Sound}
use Rattle.gj_keep.proofs.HistoryLemmas.{keeps_trimmed, keeps_longer}

-- a trim to the base leaves a store
pub store_trimmed : (conf : Configuration) (first n at : ℕ) (old new : Kept) → IsConfiguration conf.capacity conf.segments → IsStore conf first n old
    → at ≡ base conf.capacity conf.segments n → first ≤ at → new ≡ with_rows old (filter (λ (r : KeptItem). nat_le at r.place) old.rows)
    → IsStore conf at n new
store_trimmed conf first n at old new is store e low done =
    let here : at ≡ base conf.capacity conf.segments (next_place old.rows) = e ∙ ap (base conf.capacity conf.segments) store.length_is in
    let low_at : first_place old.rows ≤ at = omega (arith, store.first_is) in
    let left : IsTrimmed conf at old.rows (filter (λ (r : KeptItem). nat_le at r.place) old.rows) = trimmed_is conf at old.rows is store.sound here low_at in
    let P : Kept → Type 0 = λ k. IsStore conf at n k in
    subst P (sym done) (record {
      of_conf = store.of_conf;
      sound = good_of conf (filter (λ (r : KeptItem). nat_le at r.place) old.rows) left.sound;
      first_is = sym left.first;
      length_is = store.length_is ∙ sym left.next;
    })

-- a trim to the base keeps what was kept
pub keeps_trim : (conf : Configuration) (first n at : ℕ) (old new : Kept) (faults more : ℕ) (sure still : Bool) (h : History) → IsConfiguration conf.capacity conf.segments
    → (IsTrue old.tells → IsStore conf first n old) → at ≡ base conf.capacity conf.segments n → first ≤ at → new.tells ≡ old.tells
    → (IsTrue old.tells → new ≡ with_rows old (filter (λ (r : KeptItem). nat_le at r.place) old.rows))
    → BookKeeps (record { conf = conf; first = first; length = n; kept = old; faults = faults; steady = sure }) h
    → BookKeeps (record { conf = conf; first = at; length = n; kept = new; faults = more; steady = still }) h
keeps_trim conf first n at old new faults more sure still h is store e low same done k = record {
  length_is = k.length_is;
  rows_are = λ tells.
      let told : IsTrue old.tells = subst IsTrue same tells in
      let held = store told in
      let here : at ≡ base conf.capacity conf.segments (length_of h) = e ∙ ap (base conf.capacity conf.segments) (sym k.length_is) in
      let at_next : at ≡ base conf.capacity conf.segments (next_place old.rows) = e ∙ ap (base conf.capacity conf.segments) held.length_is in
      let low_at : first_place old.rows ≤ at = omega (arith, held.first_is) in
      let left = trimmed_is conf at old.rows is held.sound at_next low_at in
      let rows : new.rows ≡ drop (at - first) old.rows = ap (λ (m : Kept). m.rows) (done told) ∙ (left.rows ∙ ap (λ (m : ℕ). drop (at - m) old.rows) (sym held.first_is)) in
      let P : List KeptItem → Type 0 = λ rs. KeepsFrom conf.capacity conf.segments at rs h in
      subst P (sym rows) (keeps_trimmed conf.capacity conf.segments first at old.rows h (k.rows_are told) low here);
}

-- where the base isn't above the first place, there is nothing to trim
pub nothing_trimmed : (conf : Configuration) (first n : ℕ) (old : Kept) → IsStore conf first n old → base conf.capacity conf.segments n ≤ first
    → old ≡ with_rows old (trimmed conf n old.rows)
nothing_trimmed conf first n old store low =
    let b : ℕ = base conf.capacity conf.segments n in
    let sound : Sound conf old.rows = sound_of conf old.rows store.sound in
    let low_at : b ≤ first_place old.rows = omega (arith, store.first_is) in
    ap (with_rows old) (sym (filter_all b (first_place old.rows) old.rows low_at sound.follow))

-- a batch behind the rows makes a store
pub store_longer : (conf : Configuration) (first n : ℕ) (old new : Kept) (items : List Item) → IsConfiguration conf.capacity conf.segments → IsStore conf first n old
    → InRange items → n + length items ≤ 2 ^ 48 → new ≡ with_rows old (old.rows ++ placed n items) → IsStore conf first (n + length items) new
store_longer conf first n old new items is store range room done =
    let P : ℕ → Type 0 = λ m. IsLonger conf old.rows (old.rows ++ placed m items) (length items) in
    let more : IsLonger conf old.rows (old.rows ++ placed n items) (length items) = subst P (sym store.length_is) (longer_is conf old.rows items is store.sound range (omega (arith, store.length_is))) in
    let Q : Kept → Type 0 = λ k. IsStore conf first (n + length items) k in
    subst Q (sym done) (record {
      of_conf = store.of_conf;
      sound = good_of conf (old.rows ++ placed n items) more.sound;
      first_is = store.first_is ∙ sym more.first;
      length_is = (let e : n + length items ≡ next_place (old.rows ++ placed n items) = omega (arith, store.length_is, more.next) in e);
    })

-- a batch behind the rows keeps the longer history
pub keeps_append : (conf : Configuration) (first n : ℕ) (old new : Kept) (faults more : ℕ) (sure still : Bool) (h : History) (by : ℕ) (items : List Item)
    → IsConfiguration conf.capacity conf.segments → new.tells ≡ old.tells
    → (IsTrue old.tells → new ≡ with_rows old (old.rows ++ placed n items))
    → BookKeeps (record { conf = conf; first = first; length = n; kept = old; faults = faults; steady = sure }) h
    → BookKeeps (record { conf = conf; first = first; length = n + length items; kept = new; faults = more; steady = still }) (extend h (entries_by by items))
keeps_append conf first n old new faults more sure still h by items is same done k =
    let low = is.capacity_low in
    let count : length (entries_by by items) ≡ length items = length-map items (λ (x : Item). record { item = x; by = by }) in
    record {
      length_is = omega (arith, k.length_is, length-append h.entries (entries_by by items), count);
      rows_are = λ tells.
          let told : IsTrue old.tells = subst IsTrue same tells in
          let P : List KeptItem → Type 0 = λ rs. KeepsFrom conf.capacity conf.segments first rs (extend h (entries_by by items)) in
          subst P (sym (ap (λ (m : Kept). m.rows) (done told)))
          (keeps_longer conf.capacity conf.segments first n old.rows h by items (omega arith) is.segments_low (k.rows_are told) k.length_is);
    }

-- a trim at the base leaves the rows that a window may need
pub trim_rows : (conf : Configuration) (n at : ℕ) (old new : Kept) → at ≡ base conf.capacity conf.segments n
    → new ≡ with_rows old (filter (λ (r : KeptItem). nat_le at r.place) old.rows) → new ≡ with_rows old (trimmed conf n old.rows)
trim_rows conf n at old new e done = done ∙ ap (λ (m : ℕ). with_rows old (filter (λ (r : KeptItem). nat_le m r.place) old.rows)) e
