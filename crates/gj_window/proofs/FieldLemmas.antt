-- What the fields of segments say of what contracts see.
use Rattle.std.proofs.Common.{◌≡◌, ℕ, ◌+◌, ◌*◌, ◌<◌, ◌≤◌, ◌∙◌, List, [], ◌++◌, length, slice_index, slice_get, Some, refl, arith, sym, ap, subst, length-append, ◌%◌, ◌==◌, if◌then◌else◌, zero-add}
use Rattle.std.proofs.lemmas.Bool.{cond-true, cond-false, eq-eqb, ne_eqb}
use Rattle.gj_base.specs.declared.item.Item.{Item}
use Rattle.gj_base.specs.declared.kind.Kind.{Kind}
use Rattle.gj_base.specs.declared.mask.Mask.{Mask}
use Rattle.gj_base.specs.declared.side.Side.{Side}
use Rattle.gj_base.specs.declared.side.Side.TheVariants.{User, Post}
use Rattle.gj_base.specs.Ends.{ends}
use Rattle.gj_directory.specs.Directories.{ids_of}
use Rattle.gj_window.specs.declared.segments.Segments.TheInside.{Inside}
use Rattle.gj_base.specs.Configuration.{IsConfiguration}
use Rattle.gj_window.specs.Segments.{IsSegmented, Segmented, seen_of, items_of, names_on, going, any_of, pooled_in}
use Rattle.gj_window.proofs.NumberLemmas.{rest_is}
use Rattle.gj_window.proofs.PartLemmas.{parts_count}

names_seen : (s : Inside) (side : Side) → ids_of s.directory side ≡ names_on (seen_of s) side
names_seen s User = refl
names_seen s Post = refl

names_are : (s : Inside) (w : Segmented) (side : Side) → seen_of s ≡ w → ids_of s.directory side ≡ names_on w side
names_are s w side e = names_seen s side ∙ ap (λ (u : Segmented). names_on u side) e

pub below_names : (s : Inside) (w : Segmented) (side : Side) (v : ℕ) → seen_of s ≡ w → v < length (names_on w side) → v < length (ids_of s.directory side)
below_names s w side v e below = let P : List ℕ → Type 0 = λ ids. v < length ids in subst P (sym (names_are s w side e)) below

pub name_is : (s : Inside) (w : Segmented) (side : Side) (v id : ℕ) → seen_of s ≡ w → slice_index (names_on w side) v ≡ id → slice_index (ids_of s.directory side) v ≡ id
name_is s w side v id e is = ap (λ (ids : List ℕ). slice_index ids v) (names_are s w side e) ∙ is

pub full_count : (s : Inside) (w : Segmented) (side : Side) (v id : ℕ) (mask : Mask) (n : ℕ) → seen_of s ≡ w → slice_index (names_on w side) v ≡ id
    → n ≡ length (ends s.directory.full side (slice_index (ids_of s.directory side) v) mask) → n ≡ length (ends w.full side id mask)
full_count s w side v id mask n e named is =
    is
    ∙ (ap (λ (k : ℕ). length (ends s.directory.full side k mask)) (name_is s w side v id e named)
    ∙ ap (λ (u : Segmented). length (ends u.full side id mask)) e)

pub fresh_count : (s : Inside) (w : Segmented) (side : Side) (v id : ℕ) (mask : Mask) (n : ℕ) → seen_of s ≡ w → slice_index (names_on w side) v ≡ id
    → s.directory.fresh ≡ s.older.items ++ s.newest.items
    → n ≡ length (ends s.directory.fresh side (slice_index (ids_of s.directory side) v) mask) → n ≡ length (ends (w.older ++ w.newest) side id mask)
fresh_count s w side v id mask n e named tied is =
    is
    ∙ (ap (λ (k : ℕ). length (ends s.directory.fresh side k mask)) (name_is s w side v id e named)
    ∙ (ap (λ (l : List Item). length (ends l side id mask)) tied ∙ ap (λ (u : Segmented). length (ends (u.older ++ u.newest) side id mask)) e))

-- a vertex with no end in either part has none
pub none_at : (s : Inside) (w : Segmented) (side : Side) (id : ℕ) (mask : Mask) → seen_of s ≡ w → s.directory.fresh ≡ s.older.items ++ s.newest.items
    → (ends s.directory.full side id mask ≡ []) × (ends s.directory.fresh side id mask ≡ []) → 0 ≡ length (ends (items_of w) side id mask)
none_at s w side id mask e tied none =
    let a : 0 ≡ length (ends s.directory.full side id mask) = ap length (sym none.0) in
    let b : 0 ≡ length (ends s.directory.fresh side id mask) = ap length (sym none.1) in
    let all : 0 + 0 ≡ length (ends (s.directory.full ++ s.directory.fresh) side id mask) = parts_count s.directory.full s.directory.fresh side id mask 0 0 a b in
    all
    ∙ (ap (λ (l : List Item). length (ends (s.directory.full ++ l) side id mask)) tied ∙ ap (λ (u : Segmented). length (ends (items_of u) side id mask)) e)

-- an end of a laid-out interaction
pub end_full : (s : Inside) (w : Segmented) (side : Side) (v id : ℕ) (mask : Mask) (i : ℕ) (end : ℕ × Kind) → seen_of s ≡ w → slice_index (names_on w side) v ≡ id
    → slice_get (ends s.directory.full side (slice_index (ids_of s.directory side) v) mask) i ≡ Some end → slice_get (ends w.full side id mask) i ≡ Some end
end_full s w side v id mask i end e named is =
    sym (ap (λ (k : ℕ). slice_get (ends s.directory.full side k mask) i) (name_is s w side v id e named)
    ∙ ap (λ (u : Segmented). slice_get (ends u.full side id mask) i) e)
    ∙ is

-- all interactions, by the fields
pub held_is : (s : Inside) (w : Segmented) → seen_of s ≡ w → s.directory.fresh ≡ s.older.items ++ s.newest.items → s.directory.full ++ s.directory.fresh ≡ items_of w
held_is s w e tied = ap (λ (l : List Item). s.directory.full ++ l) tied ∙ ap items_of e

pub length_held : (s : Inside) → s.directory.fresh ≡ s.older.items ++ s.newest.items
    → length (s.directory.full ++ s.directory.fresh) ≡ length s.directory.full + (length s.older.items + length s.newest.items)
length_held s tied =
    ap (λ (l : List Item). length (s.directory.full ++ l)) tied
    ∙ omega (arith, length-append s.directory.full (s.older.items ++ s.newest.items), length-append s.older.items s.newest.items)

pub none_goes : (w : Segmented) → length (items_of w) < w.conf.capacity * w.conf.segments → going w ≡ 0
none_goes w below = cond-false _ _ _ (ne_eqb (length (items_of w)) (w.conf.capacity * w.conf.segments) (λ (same : length (items_of w) ≡ w.conf.capacity * w.conf.segments). omega arith))

pub one_goes : (w : Segmented) → length (items_of w) ≡ w.conf.capacity * w.conf.segments → going w ≡ w.conf.capacity
one_goes w full = cond-true _ _ _ (eq-eqb (length (items_of w)) (w.conf.capacity * w.conf.segments) full)

-- once all that is full is laid out, a newest segment that has begun is the only one in pool form
pub one_pooled : (s : Segmented) → s.older ≡ [] → length s.newest < s.conf.capacity → length s.full % s.conf.capacity ≡ 0
    → pooled_in s ≡ (if length (items_of s) % s.conf.capacity == 0 then 0 else 1)
one_pooled s none short whole =
    let n : length (items_of s) ≡ length s.full + length s.newest = omega (arith, length-append s.full (s.older ++ s.newest), length-append s.older s.newest, ap length none) in
    let rest : length (items_of s) % s.conf.capacity ≡ length s.newest = ap (λ (k : ℕ). k % s.conf.capacity) n ∙ rest_is s.conf.capacity (length s.full) (length s.newest) short whole in
    ap (λ (l : List Item). any_of l + any_of s.newest) none
    ∙ (zero-add (any_of s.newest) ∙ ap (λ (k : ℕ). if k == 0 then 0 else 1) (sym rest))

-- no interaction yet
pub none_yet : (s : Inside) → IsConfiguration s.conf.capacity s.conf.segments → s.directory.full ≡ [] → s.directory.fresh ≡ [] → s.older.items ≡ [] → s.newest.items ≡ []
    → s.older.room ≡ s.conf.capacity → s.newest.room ≡ s.conf.capacity → s.directory.room ≡ s.conf.capacity * s.conf.segments
    → s.directory.room + s.conf.capacity ≤ s.directory.names → s.whole ≡ 0 → IsSegmented s
none_yet s conf full fresh older newest older_room newest_room room names whole =
    let low = conf.capacity_low in
    let f : length s.directory.full ≡ 0 = ap length full in
    let o : length s.older.items ≡ 0 = ap length older in
    let n : length s.newest.items ≡ 0 = ap length newest in
    let w : s.conf.capacity * s.whole ≡ 0 = ap (λ (k : ℕ). s.conf.capacity * k) whole ∙ (let z : s.conf.capacity * 0 ≡ 0 = omega arith in z) in
    let both : s.older.items ++ s.newest.items ≡ [] = ap (λ (l : List Item). l ++ s.newest.items) older ∙ newest in
    record {
      conf = conf;
      tied = fresh ∙ sym both;
      older_room = older_room;
      newest_room = newest_room;
      aligned = f ∙ sym w;
      older_full = λ any. absurd (omega arith);
      newest_few = omega arith;
      few = omega arith;
      within = (let le : length s.directory.full + (length s.older.items + length s.newest.items) ≤ s.conf.capacity * s.conf.segments = omega arith in le);
      room = room;
      names = names;
      users = λ any. absurd (omega arith);
      posts = λ any. absurd (omega arith);
    }
