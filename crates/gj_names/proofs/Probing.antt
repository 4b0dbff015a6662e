-- The search over the slots, and what a seat keeps of it.
use Rattle.std.proofs.Common.{◌≡◌, ◌≢◌, ℕ, zero, ◌+◌, ◌-◌, ◌*◌, ◌^◌, ◌<◌, ◌%◌, inl, inr, true, false, cond, eqb, List, [], ◌∷◌, ◌++◌, length, get_or, set, replicate, suc, arith, sym, refl, subst, ◌∙◌, ap, length-set, length-append}
use Rattle.std.proofs.lemmas.Bool.{eq-eqb, ne_eqb, cases_lt, cases_eq, cases_order}
use Rattle.std.proofs.lemmas.Nat.{div_below, pow_pos, mod_below}
use Rattle.std.proofs.lemmas.List.{get_or-set_same, get_or-set_other, get_or_default, get_or_append_left, get_or-replicate, length-replicate}
use Rattle.std.proofs.Math.Nat.{pow-suc}
use Rattle.std.proofs.Math.Seq.{get_or-append_seam}
use Rattle.std.proofs.lemmas.List.Sums.{sum_by-cons, sum_by-set}
use Rattle.std.proofs.lemmas.List.Folds.{sum_by-replicate}
use Rattle.std.proofs.lemmas.List.Quantifiers.{all_pairs_push}
use Rattle.std.proofs.lemmas.Grind.{common_steps, get_or-set_at}
use Rattle.std.specs.List.{count_by}
use Rattle.gj_names.specs.declared.table.TheConstants.{FREE}
use Rattle.gj_names.specs.Slots.{first_slot_of, place_at, IsUsed, IsTable, IsSized, IsWay, IsSeat, IsOther, IsFree}

pub first_slot_below : (size shift id : ℕ) → size * 2 ^ shift ≡ 2 ^ 64 → first_slot_of shift id < size
unfolding first_slot_of
first_slot_below size shift id whole =
    div_below (id * 11400714819323198485 % 2 ^ 64) (2 ^ shift) size (pow_pos shift)
    (let small : id * 11400714819323198485 % 2 ^ 64 < 2 ^ 64 = mod_below _ _ (pow_pos 64) in omega (arith, small, whole))

-- slots in use are not counted among the free ones
pub count_used : (slots : List ℕ) → ((j : ℕ) → j < length slots → IsUsed slots j) → count_by (λ place. eqb place FREE) slots ≡ 0
count_used [] used = refl
count_used (place ∷ slots) used =
    let here : eqb place FREE ≡ false = ne_eqb place FREE (used 0 (omega arith)) in
    let rest = count_used slots (λ j below. used (suc j) (omega arith)) in
    grind (arith, common_steps, sum_by-cons (λ place. cond (eqb place FREE) 1 0) place slots, here, rest)

pub count_free : (size : ℕ) → count_by (λ place. eqb place FREE) (replicate size FREE) ≡ size
count_free size =
    let each = sum_by-replicate (λ place. cond (eqb place FREE) 1 0) size FREE in
    let one : eqb FREE FREE ≡ true = eq-eqb FREE FREE refl in
    grind (arith, common_steps, each, one)

-- free slots are the empty table
pub table_empty : (size shift : ℕ) → IsSized size shift → IsTable (replicate size FREE) shift []
table_empty size shift sized = record {
  sized = rw (length-replicate size FREE) sized;
  counted = rw (length-replicate size FREE) (omega (arith, count_free size));
  placed = (λ j below used. absurd (used (get_or-replicate size j FREE FREE (rw (length-replicate size FREE) at below))));
  seated = (λ p below. absurd (omega arith));
  distinct = (λ i j d _ below. absurd (omega arith));
}

-- a way over slots in use, and a way over other identifiers from the same slot, cannot pass each other's ends
ways_meet : (Used Other : ℕ → Type 0) (size first at seat : ℕ) → at < size → seat < size → (Used at → ⊥) → Used seat → (Other seat → ⊥) → IsWay Other size first at → IsWay Used size first seat → ⊥
ways_meet Used Other size first at seat inside seat_inside free used same search held =
    elim (cases_order at seat) [
      | inl equal ↦ free (subst Used (sym equal) used)
      | inr apart ↦ elim apart [
        | inl before ↦ elim (cases_lt at first) [
          | inl wraps ↦ elim (cases_lt seat first) [
            | inl both ↦ free (held.start both at before)
            | inr beyond ↦ same (search.round wraps seat beyond seat_inside)
          ]
          | inr ahead ↦ free (held.straight at ahead before)
        ]
        | inr after ↦ elim (cases_lt seat first) [
          | inl wraps ↦ elim (cases_lt at first) [
            | inl both ↦ same (search.start both seat after)
            | inr beyond ↦ free (held.round wraps at beyond inside)
          ]
          | inr ahead ↦ same (search.straight seat ahead after)
        ]
      ]
    ]

-- where the search ends at a free slot, the identifier is absent
pub absent_at_free : (slots : List ℕ) (shift : ℕ) (ids : List ℕ) (id at : ℕ) → IsTable slots shift ids → at < length slots → place_at slots at ≡ FREE → IsWay (IsOther slots ids id) (length slots) (first_slot_of shift id) at → (p : ℕ) → p < length ids → get_or ids p 0 ≢ id
absent_at_free slots shift ids id at table inside free way p below here =
    let seated : (j : ℕ) × IsSeat slots (first_slot_of shift id) p j =
    subst (λ v. (j : ℕ) × IsSeat slots (first_slot_of shift v) p j) here (table.seated p below)
    in
    let seat = seated.1 in
    ways_meet (IsUsed slots) (IsOther slots ids id) (length slots) (first_slot_of shift id) at seated.0 inside seat.inside (λ used. used free) seat.used
    (λ other. other.1 (ap (λ q. get_or ids q 0) seat.holds ∙ here)) way seat.way

-- where no slot is a stop, all are in use, which their count excludes
pub some_slot_is_free : (slots : List ℕ) (shift : ℕ) (ids : List ℕ) → IsTable slots shift ids → length ids < length slots → ((j : ℕ) → j < length slots → IsUsed slots j) → ⊥
some_slot_is_free slots shift ids table spare used =
    let none = count_used slots used in
    omega (arith, none, table.counted)

way_map : (P Q : ℕ → Type 0) (size first last : ℕ) → ((j : ℕ) → P j → Q j) → IsWay P size first last → IsWay Q size first last
way_map P Q size first last step way = record {
  straight = λ j from to. step j (way.straight j from to);
  round = λ wraps j from to. step j (way.round wraps j from to);
  start = λ wraps j to. step j (way.start wraps j to);
}

pub way_used : (slots ids : List ℕ) (id size first last : ℕ) → IsWay (IsOther slots ids id) size first last → IsWay (IsUsed slots) size first last
way_used slots ids id size first last way = way_map _ _ size first last (λ j other. other.0) way

used_stays : (slots : List ℕ) (at place j : ℕ) → at < length slots → place ≢ FREE → IsUsed slots j → IsUsed (set slots at place) j
used_stays slots at place j inside taken used free = elim (cases_eq j at) [
  | inl equal ↦ taken (sym (get_or-set_at slots at j place FREE equal inside) ∙ free)
  | inr apart ↦ used (sym (get_or-set_other slots at j place FREE apart) ∙ free)
]

seat_stays : (slots : List ℕ) (first at place p seat : ℕ) → at < length slots → place ≢ FREE → place_at slots at ≡ FREE → IsSeat slots first p seat → IsSeat (set slots at place) first p seat
seat_stays slots first at place p seat inside taken free held =
    let apart : seat ≢ at = λ equal. held.used (subst (λ j. place_at slots j ≡ FREE) (sym equal) free) in
    let same = get_or-set_other slots at seat place FREE apart in
    record {
      inside = rw length-set held.inside;
      used = used_stays slots at place seat inside taken held.used;
      holds = same ∙ held.holds;
      way = rw length-set (way_map _ _ _ _ _ (λ j. used_stays slots at place j inside taken) held.way);
    }

seat_new : (slots : List ℕ) (first at place : ℕ) → place ≢ FREE → IsFree slots first at → IsSeat (set slots at place) first place at
seat_new slots first at place taken free =
    let same = get_or-set_same slots at place FREE free.inside in
    record {
      inside = rw length-set free.inside;
      used = λ none. taken (sym same ∙ none);
      holds = same;
      way = rw length-set (way_map _ _ _ _ _ (λ j. used_stays slots at place j free.inside taken) free.way);
    }

seated_count : (slots : List ℕ) (at place : ℕ) → at < length slots → place ≢ FREE → place_at slots at ≡ FREE → count_by (λ p. eqb p FREE) (set slots at place) + 1 ≡ count_by (λ p. eqb p FREE) slots
seated_count slots at place inside taken free =
    let change = sum_by-set (λ p. cond (eqb p FREE) 1 0) slots at place FREE inside in
    let was : eqb (place_at slots at) FREE ≡ true = eq-eqb _ _ free in
    let is : eqb place FREE ≡ false = ne_eqb place FREE taken in
    grind (arith, common_steps, change, was, is)

-- the table after an absent identifier is seated at the free slot
pub table_seated : (slots : List ℕ) (shift : ℕ) (ids : List ℕ) (id at : ℕ) → IsTable slots shift ids → length ids < FREE → IsFree slots (first_slot_of shift id) at → ((p : ℕ) → p < length ids → get_or ids p 0 ≢ id) → IsTable (set slots at (length ids)) shift (ids ++ id ∷ [])
table_seated slots shift ids id at table few free absent =
    let taken : length ids ≢ FREE = λ same. omega (arith, same, few) in
    record {
      sized = rw length-set table.sized;
      counted = (let more = seated_count slots at (length ids) free.inside taken free.free in rw length-set (omega (arith, more, table.counted, length-append {A = ℕ})));
      placed = λ j below used. elim (cases_eq j at) [
        | inl equal ↦ (let same = get_or-set_at slots at j (length ids) FREE equal free.inside in omega (arith, same, length-append {A = ℕ}))
        | inr apart ↦ (let same = get_or-set_other slots at j (length ids) FREE apart in
            let old = table.placed j (simp length-set at below) (λ none. used (same ∙ none)) in
            omega (arith, old, same, length-append {A = ℕ}))
      ];
      seated = λ p below. elim (cases_lt p (length ids)) [
        | inl old ↦ (let seat = table.seated p old in
            (seat.0, rw (get_or_append_left ids (id ∷ []) 0 p old) (seat_stays slots _ at (length ids) p seat.0 free.inside taken free.free seat.1)))
        | inr last ↦ (let at_end : p ≡ length ids = omega (arith, length-append {A = ℕ}) in
            let here : get_or (ids ++ id ∷ []) p 0 ≡ id = ap (λ q. get_or (ids ++ id ∷ []) q 0) at_end ∙ get_or-append_seam ids id [] 0 in
            (at, rw (here, at_end) (seat_new slots (first_slot_of shift id) at (length ids) taken free)))
      ];
      distinct = all_pairs_push (λ one other. one ≢ other) ids id table.distinct (λ k d below. rw (get_or_default ids k d 0 below) (absent k below));
    }

-- twice the slots, and one bit less to shift
pub halved : (size shift : ℕ) → size * 2 ^ shift ≡ 2 ^ 64 → size < 2 ^ 64 → size * 2 * 2 ^ (shift - 1) ≡ 2 ^ 64
halved size zero whole small = absurd (omega (arith, whole, small))
halved size (suc k) whole small =
    let power : 2 ^ suc k ≡ 2 * 2 ^ k = grind (arith, pow-suc 2 k) in
    let rest : suc k - 1 ≡ k = omega arith in
    let whole' : size * (2 * 2 ^ k) ≡ 2 ^ 64 = rw power at whole in
    rw rest (grind (arith, whole'))

pub shift_positive : (size shift : ℕ) → size * 2 ^ shift ≡ 2 ^ 64 → size < 2 ^ 64 → 0 < shift
shift_positive size zero whole small = absurd (omega (arith, whole, small))
shift_positive size (suc k) whole small = omega arith
