-- The search over the slots, and what a seat and a new stamp keep of it.
use Rattle.std.proofs.Common.{◌≡◌, ◌≢◌, ℕ, zero, ◌+◌, ◌-◌, ◌*◌, ◌^◌, ◌<◌, ◌%◌, inl, inr, true, false, cond, eqb, List, [], ◌∷◌, ◌++◌, length, get_or, suc, arith, sym, refl, subst, ◌∙◌, ap, length-set, length-append}
use Rattle.std.proofs.lemmas.Bool.{eq-eqb, ne_eqb, cases_lt, cases_eq, cases_order}
use Rattle.std.proofs.lemmas.Nat.{div_below, pow_pos, mod_below}
use Rattle.std.proofs.lemmas.List.{get_or-set_same, get_or-set_other, get_or_default, get_or_append_left}
use Rattle.std.proofs.Math.Nat.{pow-suc}
use Rattle.std.proofs.Math.Seq.{get_or-append_seam}
use Rattle.std.proofs.lemmas.List.Sums.{sum_by-cons, sum_by-set}
use Rattle.std.proofs.lemmas.List.Quantifiers.{all_pairs_push}
use Rattle.std.proofs.lemmas.Grind.{common_steps, get_or-set_at}
use Rattle.std.specs.List.{count_by}
use Rattle.gj_ids.specs.declared.table.Slot.{Slot}
use Rattle.gj_ids.specs.Slots.{first_slot_of, blank, stamp_at, IsTable, IsWay, IsSeat, IsOther, IsFree, seated_in}

pub first_slot_below : (size shift id : ℕ) → size * 2 ^ shift ≡ 2 ^ 64 → first_slot_of shift id < size
unfolding first_slot_of
first_slot_below size shift id whole =
    div_below (id * 11400714819323198485 % 2 ^ 64) (2 ^ shift) size (pow_pos shift)
    (let small : id * 11400714819323198485 % 2 ^ 64 < 2 ^ 64 = mod_below _ _ (pow_pos 64) in omega (arith, small, whole))

-- a table whose slots are all in use counts them all
pub count_full : (stamp : ℕ) (slots : List Slot) → ((j : ℕ) → j < length slots → stamp_at slots j ≡ stamp) → count_by (λ slot. eqb slot.stamp stamp) slots ≡ length slots
count_full stamp [] used = refl
count_full stamp (slot ∷ slots) used =
    let here : eqb slot.stamp stamp ≡ true = eq-eqb slot.stamp stamp (used 0 (omega arith)) in
    let rest = count_full stamp slots (λ j below. used (suc j) (omega arith)) in
    grind (arith, common_steps, sum_by-cons (λ slot. cond (eqb slot.stamp stamp) 1 0) slot slots, here, rest)

pub count_none : (stamp : ℕ) (slots : List Slot) → ((j : ℕ) → j < length slots → stamp_at slots j ≢ stamp) → count_by (λ slot. eqb slot.stamp stamp) slots ≡ 0
count_none stamp [] free = refl
count_none stamp (slot ∷ slots) free =
    let here : eqb slot.stamp stamp ≡ false = ne_eqb slot.stamp stamp (free 0 (omega arith)) in
    let rest = count_none stamp slots (λ j below. free (suc j) (omega arith)) in
    grind (arith, common_steps, sum_by-cons (λ slot. cond (eqb slot.stamp stamp) 1 0) slot slots, here, rest)

-- slots of older stamps are the empty table
pub table_empty : (slots : List Slot) (stamp shift : ℕ) → length slots * 2 ^ shift ≡ 2 ^ 64 → shift < 64 → ((j : ℕ) → stamp_at slots j < stamp) → IsTable slots stamp shift []
table_empty slots stamp shift size shifted older = record {
  ready = record {
    size = size;
    shifted = shifted;
    begun = (let first = older 0 in omega (arith, first));
    older = (λ j. let old = older j in omega (arith, old));
  };
  counted = count_none stamp slots (λ j _ same. let old = older j in omega (arith, old, same));
  placed = (λ j _ same. let old = older j in absurd (omega (arith, old, same)));
  seated = (λ p below. absurd (omega arith));
  distinct = (λ i j d _ below. absurd (omega arith));
}

-- a way over slots in use, and a way over other identifiers from the same slot, cannot pass each other's ends
ways_meet : (Used Other : ℕ → Type 0) (size first at seat : ℕ) → at < size → seat < size → (Used at → ⊥) → Used seat → (Other seat → ⊥) → IsWay Other size first at → IsWay Used size first seat → ⊥
ways_meet Used Other size first at seat inside seat_inside free used same search held =
    elim (cases_order at seat) [
      | inl equal ↦ free (subst Used (sym equal) used)
      | inr apart ↦ elim apart [
        | inl before ↦ elim (cases_lt at first) [
          | inl wraps ↦ elim (cases_lt seat first) [
            | inl both ↦ free (held.start both at before)
            | inr beyond ↦ same (search.round wraps seat beyond seat_inside)
          ]
          | inr ahead ↦ free (held.straight at ahead before)
        ]
        | inr after ↦ elim (cases_lt seat first) [
          | inl wraps ↦ elim (cases_lt at first) [
            | inl both ↦ same (search.start both seat after)
            | inr beyond ↦ free (held.round wraps at beyond inside)
          ]
          | inr ahead ↦ same (search.straight seat ahead after)
        ]
      ]
    ]

-- where the search ends at a free slot, the identifier is absent
pub absent_at_free : (slots : List Slot) (stamp shift : ℕ) (ids : List ℕ) (id at : ℕ) → IsTable slots stamp shift ids → at < length slots → stamp_at slots at ≢ stamp → IsWay (IsOther slots stamp ids id) (length slots) (first_slot_of shift id) at → (p : ℕ) → p < length ids → get_or ids p 0 ≢ id
absent_at_free slots stamp shift ids id at table inside free way p below here =
    let seated : (j : ℕ) × IsSeat slots stamp (first_slot_of shift id) p j =
    subst (λ v. (j : ℕ) × IsSeat slots stamp (first_slot_of shift v) p j) here (table.seated p below)
    in
    let seat = seated.1 in
    ways_meet (λ j. stamp_at slots j ≡ stamp) (IsOther slots stamp ids id) (length slots) (first_slot_of shift id) at seated.0 inside seat.inside free seat.used
    (λ other. other.1 (ap (λ q. get_or ids q 0) seat.holds ∙ here)) way seat.way

-- where no slot is a stop, all are in use, which their count excludes
pub some_slot_is_free : (slots : List Slot) (stamp shift : ℕ) (ids : List ℕ) → IsTable slots stamp shift ids → length ids < length slots → ((j : ℕ) → j < length slots → stamp_at slots j ≡ stamp) → ⊥
some_slot_is_free slots stamp shift ids table spare used =
    let full = count_full stamp slots used in
    omega (arith, full, table.counted)

way_map : (P Q : ℕ → Type 0) (size first last : ℕ) → ((j : ℕ) → P j → Q j) → IsWay P size first last → IsWay Q size first last
way_map P Q size first last step way = record {
  straight = λ j from to. step j (way.straight j from to);
  round = λ wraps j from to. step j (way.round wraps j from to);
  start = λ wraps j to. step j (way.start wraps j to);
}

used_stays : (slots : List Slot) (stamp at place j : ℕ) → at < length slots → stamp_at slots j ≡ stamp → stamp_at (seated_in slots stamp at place) j ≡ stamp
used_stays slots stamp at place j inside used = elim (cases_eq j at) [
  | inl equal ↦ ap (λ (slot : Slot). slot.stamp) (get_or-set_at slots at j _ blank equal inside)
  | inr apart ↦ ap (λ (slot : Slot). slot.stamp) (get_or-set_other slots at j _ blank apart) ∙ used
]

seat_stays : (slots : List Slot) (stamp first at place p seat : ℕ) → at < length slots → stamp_at slots at ≢ stamp → IsSeat slots stamp first p seat → IsSeat (seated_in slots stamp at place) stamp first p seat
seat_stays slots stamp first at place p seat inside free held =
    let apart : seat ≢ at = λ equal. free (subst (λ j. stamp_at slots j ≡ stamp) equal held.used) in
    let same = get_or-set_other slots at seat (record { stamp = stamp; place = place }) blank apart in
    record {
      inside = rw length-set held.inside;
      used = used_stays slots stamp at place seat inside held.used;
      holds = ap (λ (slot : Slot). slot.place) same ∙ held.holds;
      way = rw length-set (way_map _ _ _ _ _ (λ j. used_stays slots stamp at place j inside) held.way);
    }

seat_new : (slots : List Slot) (stamp first at place : ℕ) → IsFree slots stamp first at → IsSeat (seated_in slots stamp at place) stamp first place at
seat_new slots stamp first at place free =
    let same = get_or-set_same slots at (record { stamp = stamp; place = place }) blank free.inside in
    record {
      inside = rw length-set free.inside;
      used = ap (λ (slot : Slot). slot.stamp) same;
      holds = ap (λ (slot : Slot). slot.place) same;
      way = rw length-set (way_map _ _ _ _ _ (λ j. used_stays slots stamp at place j free.inside) free.way);
    }

seated_count : (slots : List Slot) (stamp at place : ℕ) → at < length slots → stamp_at slots at ≢ stamp → count_by (λ slot. eqb slot.stamp stamp) (seated_in slots stamp at place) ≡ count_by (λ slot. eqb slot.stamp stamp) slots + 1
seated_count slots stamp at place inside free =
    let change = sum_by-set (λ slot. cond (eqb slot.stamp stamp) 1 0) slots at (record { stamp = stamp; place = place }) blank inside in
    let was : eqb (stamp_at slots at) stamp ≡ false = ne_eqb _ _ free in
    let is : eqb stamp stamp ≡ true = eq-eqb stamp stamp refl in
    grind (arith, common_steps, change, was, is)

-- the table after an absent identifier is seated at the free slot
pub table_seated : (slots : List Slot) (stamp shift : ℕ) (ids : List ℕ) (id at : ℕ) → IsTable slots stamp shift ids → IsFree slots stamp (first_slot_of shift id) at → ((p : ℕ) → p < length ids → get_or ids p 0 ≢ id) → IsTable (seated_in slots stamp at (length ids)) stamp shift (ids ++ id ∷ [])
table_seated slots stamp shift ids id at table free absent = record {
  ready = record {
    size = rw length-set table.ready.size;
    shifted = table.ready.shifted;
    begun = table.ready.begun;
    older = λ j. elim (cases_eq j at) [
      | inl equal ↦ (let same = ap (λ (slot : Slot). slot.stamp) (get_or-set_at slots at j (record { stamp = stamp; place = length ids }) blank equal free.inside) in omega (arith, same))
      | inr apart ↦ (let same = ap (λ (slot : Slot). slot.stamp) (get_or-set_other slots at j (record { stamp = stamp; place = length ids }) blank apart) in let old = table.ready.older j in omega (arith, same, old))
    ];
  };
  counted = (let more = seated_count slots stamp at (length ids) free.inside free.free in omega (arith, more, table.counted, length-append {A = ℕ}));
  placed = λ j below used. elim (cases_eq j at) [
    | inl equal ↦ (let same = ap (λ (slot : Slot). slot.place) (get_or-set_at slots at j (record { stamp = stamp; place = length ids }) blank equal free.inside) in omega (arith, same, length-append {A = ℕ}))
    | inr apart ↦ (let same = get_or-set_other slots at j (record { stamp = stamp; place = length ids }) blank apart in
        let old = table.placed j (simp length-set at below) (sym (ap (λ (slot : Slot). slot.stamp) same) ∙ used) in
        let place = ap (λ (slot : Slot). slot.place) same in
        omega (arith, old, place, length-append {A = ℕ}))
  ];
  seated = λ p below. elim (cases_lt p (length ids)) [
    | inl old ↦ (let seat = table.seated p old in
        (seat.0, rw (get_or_append_left ids (id ∷ []) 0 p old) (seat_stays slots stamp _ at (length ids) p seat.0 free.inside free.free seat.1)))
    | inr last ↦ (let at_end : p ≡ length ids = omega (arith, length-append {A = ℕ}) in
        let here : get_or (ids ++ id ∷ []) p 0 ≡ id = ap (λ q. get_or (ids ++ id ∷ []) q 0) at_end ∙ get_or-append_seam ids id [] 0 in
        (at, rw (here, at_end) (seat_new slots stamp (first_slot_of shift id) at (length ids) free)))
  ];
  distinct = all_pairs_push (λ one other. one ≢ other) ids id table.distinct (λ k d below. rw (get_or_default ids k d 0 below) (absent k below));
}

pub way_used : (slots : List Slot) (stamp : ℕ) (ids : List ℕ) (id size first last : ℕ) → IsWay (IsOther slots stamp ids id) size first last → IsWay (λ j. stamp_at slots j ≡ stamp) size first last
way_used slots stamp ids id size first last way = way_map _ _ size first last (λ j other. other.0) way

-- twice the slots, and one bit less to shift
pub halved : (size shift : ℕ) → size * 2 ^ shift ≡ 2 ^ 64 → size < 2 ^ 64 → size * 2 * 2 ^ (shift - 1) ≡ 2 ^ 64
halved size zero whole small = absurd (omega (arith, whole, small))
halved size (suc k) whole small =
    let power : 2 ^ suc k ≡ 2 * 2 ^ k = grind (arith, pow-suc 2 k) in
    let rest : suc k - 1 ≡ k = omega arith in
    let whole' : size * (2 * 2 ^ k) ≡ 2 ^ 64 = rw power at whole in
    rw rest (grind (arith, whole'))
