-- Good rows, and what trims and batches make of them.
use Rattle.std.proofs.Common.{◌≡◌, ℕ, zero, suc, ◌+◌, ◌-◌, ◌*◌, ◌/◌, ◌%◌, ◌^◌, ◌≤◌, ◌<◌, ◌==◌, Bool, true, false, nat_le, List, [], ◌∷◌, ◌++◌, length, drop, filter, Option, Some, None, refl, sym, ap, ◌∙◌, subst, le_trans, arith, length-append, length-drop, mul-le-mul_left}
use Rattle.std.specs.Option.{is_none}
use Rattle.std.proofs.lemmas.Bool.{and_parts, and_from, eqb-true, eq-eqb, leb-true, le-leb}
use Rattle.std.proofs.Math.Nat.{mul-div-le, zero-mod}
use Rattle.gj_base.specs.declared.item.Item.{Item}
use Rattle.gj_base.specs.declared.keeper.KeptItem.{KeptItem}
use Rattle.gj_base.specs.Configuration.{Configuration, IsConfiguration}
use Rattle.gj_base.specs.History.{base}
use Rattle.gj_base.specs.Kept.{placed, next_place}
use Rattle.gj_base.proofs.Windows.{base_mono, base_aligned, base_le}
use Rattle.gj_keep.specs.Rows.{first_apart, may_begin, good, first_place}
use Rattle.gj_keep.proofs.RowLemmas.{Follow, follow_of, apart_none, follow_drop, follow_append, filter_follow, follow_end, next_follow, InRange, follow_placed, placed_length}

-- what good rows are
pub record Sound (conf : Configuration) (rows : List KeptItem) : Type 0 where
  pub aligned : first_place rows % conf.capacity ≡ 0
  pub low : first_place rows ≤ base conf.capacity conf.segments (first_place rows + length rows)
  pub follow : Follow (first_place rows) rows

none_is : (o : Option ℕ) → is_none o ≡ true → o ≡ None
none_is None is = refl
none_is (Some n) is = cc

sound_case : (conf : Configuration) (row : KeptItem) (rows : List KeptItem) (t : Bool) → may_begin conf row.place (length (row ∷ rows)) ≡ t
    → good conf (row ∷ rows) ≡ true → Sound conf (row ∷ rows)
sound_case conf row rows true is sound =
    let parts = and_parts (row.place % conf.capacity == 0) (nat_le row.place (base conf.capacity conf.segments (row.place + length (row ∷ rows)))) is in
    let none : is_none (first_apart row.place 0 (row ∷ rows)) ≡ true = rw is at sound in
    record {
      aligned = eqb-true (row.place % conf.capacity) 0 parts.0;
      low = leb-true row.place (base conf.capacity conf.segments (row.place + length (row ∷ rows))) parts.1;
      follow = follow_of row.place 0 (row ∷ rows) (none_is (first_apart row.place 0 (row ∷ rows)) none);
    }
sound_case conf row rows false is sound =
    let bad : is_none {T = ℕ} (Some 0) ≡ true = rw is at sound in
    cc

pub sound_of : (conf : Configuration) (rows : List KeptItem) → good conf rows ≡ true → Sound conf rows
sound_of conf [] sound = record { aligned = zero-mod conf.capacity; low = (let e : 0 ≤ base conf.capacity conf.segments (0 + 0) = omega arith in e); follow = tt }
sound_of conf (row ∷ rows) sound = sound_case conf row rows (may_begin conf row.place (length (row ∷ rows))) refl sound

pub good_of : (conf : Configuration) (rows : List KeptItem) → Sound conf rows → good conf rows ≡ true
good_of conf [] is = refl
good_of conf (row ∷ rows) is =
    let begins : may_begin conf row.place (length (row ∷ rows)) ≡ true =
    and_from (row.place % conf.capacity == 0) (nat_le row.place (base conf.capacity conf.segments (row.place + length (row ∷ rows)))) (eq-eqb (row.place % conf.capacity) 0 is.aligned)
    (le-leb row.place (base conf.capacity conf.segments (row.place + length (row ∷ rows))) is.low) in
    rw begins (ap is_none (apart_none row.place 0 (row ∷ rows) is.follow))

-- the place after the last good row
pub next_of : (place : ℕ) (rows : List KeptItem) → place ≡ first_place rows → Follow place rows → next_place rows ≡ place + length rows
next_of place [] e follow = omega arith
next_of place (row ∷ rows) e follow = next_follow place row rows follow

pub sound_next : (conf : Configuration) (rows : List KeptItem) → Sound conf rows → next_place rows ≡ first_place rows + length rows
sound_next conf rows is = next_of (first_place rows) rows refl is.follow

pub sound_end : (conf : Configuration) (rows : List KeptItem) → Sound conf rows → first_place rows + length rows ≤ 2 ^ 48
sound_end conf [] is = omega arith
sound_end conf (row ∷ rows) is = follow_end row.place row rows is.follow

-- the window of a history that isn't empty begins before its last interaction
pub base_before : (c s n : ℕ) → 1 ≤ s → base c s n ≤ n - 1
unfolding base
base_before c s n some =
    let y : ℕ = (n - 1) / c in
    let a : c * ((y + 1) - s) ≤ c * y = mul-le-mul_left c (omega arith) in
    le_trans a (mul-div-le (n - 1) c)

first_follow : (place : ℕ) (rows : List KeptItem) → Follow place rows → 0 < length rows → first_place rows ≡ place
first_follow place [] follow some = absurd (omega arith)
first_follow place (row ∷ rows) follow some = follow.1

-- what a trim to the base leaves
pub record IsTrimmed (conf : Configuration) (at : ℕ) (old new : List KeptItem) : Type 0 where
  pub sound : Sound conf new
  pub first : first_place new ≡ at
  pub next : next_place new ≡ next_place old
  pub rows : new ≡ drop (at - first_place old) old

trimmed_some : (conf : Configuration) (at : ℕ) (row : KeptItem) (old : List KeptItem) → IsConfiguration conf.capacity conf.segments → Sound conf (row ∷ old)
    → at ≡ base conf.capacity conf.segments (next_place (row ∷ old)) → row.place ≤ at
    → IsTrimmed conf at (row ∷ old) (filter (λ (r : KeptItem). nat_le at r.place) (row ∷ old))
trimmed_some conf at row old is sound e low =
    let rows : List KeptItem = row ∷ old in
    let n : ℕ = at - row.place in
    let left : filter (λ (r : KeptItem). nat_le at r.place) rows ≡ drop n rows = filter_follow at row.place rows low sound.follow in
    let all : next_place rows ≡ row.place + length rows = next_follow row.place row old sound.follow in
    let before : base conf.capacity conf.segments (next_place rows) ≤ next_place rows - 1 = base_before conf.capacity conf.segments (next_place rows) is.segments_low in
    let count : length (drop n rows) ≡ length rows - n = length-drop n rows in
    let here : row.place + n ≡ at = omega arith in
    let follow : Follow at (drop n rows) = (let P : ℕ → Type 0 = λ p. Follow p (drop n rows) in subst P here (follow_drop n row.place rows sound.follow)) in
    let some : 0 < length (drop n rows) = omega arith in
    let first : first_place (drop n rows) ≡ at = first_follow at (drop n rows) follow some in
    let total : first_place (drop n rows) + length (drop n rows) ≡ next_place rows = omega arith in
    let aligned : first_place (drop n rows) % conf.capacity ≡ 0 = ap (λ (p : ℕ). p % conf.capacity) (first ∙ e) ∙ base_aligned conf.capacity conf.segments (next_place rows) in
    let same : base conf.capacity conf.segments (first_place (drop n rows) + length (drop n rows)) ≡ at = ap (base conf.capacity conf.segments) total ∙ sym e in
    let follows : Follow (first_place (drop n rows)) (drop n rows) = (let P : ℕ → Type 0 = λ p. Follow p (drop n rows) in subst P (sym first) follow) in
    let left_sound : Sound conf (drop n rows) = record { aligned = aligned; low = omega arith; follow = follows } in
    let done : IsTrimmed conf at rows (drop n rows) = record {
      sound = left_sound;
      first = first;
      next = sound_next conf (drop n rows) left_sound ∙ total;
      rows = refl;
    } in
    let P : List KeptItem → Type 0 = λ rs. IsTrimmed conf at rows rs in
    subst P (sym left) done

drop_none : (n : ℕ) → drop {A = KeptItem} n [] ≡ []
drop_none zero = refl
drop_none (suc n) = refl

pub trimmed_is : (conf : Configuration) (at : ℕ) (rows : List KeptItem) → IsConfiguration conf.capacity conf.segments → good conf rows ≡ true
    → at ≡ base conf.capacity conf.segments (next_place rows) → first_place rows ≤ at
    → IsTrimmed conf at rows (filter (λ (r : KeptItem). nat_le at r.place) rows)
trimmed_is conf at [] is sound e low =
    let none = base_le conf.capacity conf.segments 0 is.segments_low in
    let zero_at : 0 ≡ at = omega arith in
    record { sound = sound_of conf [] refl; first = zero_at; next = refl; rows = sym (drop_none (at - 0)) }
trimmed_is conf at (row ∷ rows) is sound e low = trimmed_some conf at row rows is (sound_of conf (row ∷ rows) sound) e low

-- what a batch behind the rows makes
pub record IsLonger (conf : Configuration) (old new : List KeptItem) (more : ℕ) : Type 0 where
  pub sound : Sound conf new
  pub first : first_place new ≡ first_place old
  pub next : next_place new ≡ next_place old + more

first_placed : (items : List Item) → first_place (placed 0 items) ≡ 0
first_placed [] = refl
first_placed (x ∷ items) = refl

longer_first : (rows : List KeptItem) (items : List Item) → first_place (rows ++ placed (next_place rows) items) ≡ first_place rows
longer_first [] items = first_placed items
longer_first (row ∷ rows) items = refl

pub longer_is : (conf : Configuration) (rows : List KeptItem) (items : List Item) → IsConfiguration conf.capacity conf.segments → good conf rows ≡ true
    → InRange items → next_place rows + length items ≤ 2 ^ 48 → IsLonger conf rows (rows ++ placed (next_place rows) items) (length items)
longer_is conf rows items is good range room =
    let old : Sound conf rows = sound_of conf rows good in
    let p : ℕ = first_place rows in
    let n : ℕ = next_place rows in
    let new : List KeptItem = rows ++ placed n items in
    let at : n ≡ p + length rows = sound_next conf rows old in
    let more : Follow n (placed n items) = follow_placed n items range room in
    let follow : Follow p new = follow_append p rows (placed n items) old.follow (let P : ℕ → Type 0 = λ q. Follow q (placed n items) in subst P at more) in
    let first : first_place new ≡ p = longer_first rows items in
    let count : length new ≡ length rows + length items = length-append rows (placed n items) ∙ ap (λ (m : ℕ). length rows + m) (placed_length n items) in
    let low = is.capacity_low in
    let total : p + length rows ≤ first_place new + length new = omega arith in
    let grows : base conf.capacity conf.segments (p + length rows) ≤ base conf.capacity conf.segments (first_place new + length new) = base_mono conf.capacity conf.segments (p + length rows) (first_place new + length new) (omega arith) total in
    let begins = old.low in
    let sound : Sound conf new = record {
      aligned = ap (λ (q : ℕ). q % conf.capacity) first ∙ old.aligned;
      low = omega arith;
      follow = (let P : ℕ → Type 0 = λ q. Follow q new in subst P (sym first) follow);
    } in
    record { sound = sound; first = first; next = (let e : next_place new ≡ n + length items = omega (arith, sound_next conf new sound) in e) }
