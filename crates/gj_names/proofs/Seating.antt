-- A new identifier at the end of the list, and in the slots.
use Rattle.std.proofs.Common.{◌≡◌, ℕ, suc, ◌+◌, ◌*◌, ◌^◌, ◌<◌, ◌≤◌, inl, inr, List, [], ◌∷◌, ◌++◌, length, get_or, take, set, Some, None, arith, sym, subst, ◌∙◌, length-append}
use Rattle.std.proofs.lemmas.Bool.{cases_lt}
use Rattle.std.proofs.lemmas.List.{take_more, get_or-take, length-take-le}
use Rattle.std.proofs.lemmas.Nat.{pow_pos}
use Rattle.std.proofs.Math.Nat.{pow-suc, pow-le-pow_right, mul-le-mul_left, mul-le-mul_right}
use Rattle.std.proofs.Math.Seq.{take-append_seam, get_or-append_seam}
use Rattle.gj_base.specs.Firsts.{place_of, HasNoRepeat}
use Rattle.gj_base.proofs.FirstLemmas.{place_of-at, place_of-Some, with_id-absent, distinct-with_id}
use Rattle.gj_names.specs.Slots.{first_slot_of, IsTable, IsFree, IsReserved}
use Rattle.gj_names.proofs.Probing.{table_seated}

-- an identifier that stands later is not among those before it
pub next_absent : (ids : List ℕ) (place p : ℕ) → HasNoRepeat ids → place < length ids → place_of (take place ids) (get_or ids place 0) ≡ Some p → ⊥
next_absent ids place p distinct inside found =
    let size : length (take place ids) ≡ place = length-take-le place ids (omega arith) in
    let facts = place_of-Some (take place ids) (get_or ids place 0) p found in
    let before : p < place = omega (arith, size, facts.0) in
    distinct p place 0 before inside (sym (get_or-take place ids p 0 before) ∙ facts.1)

-- the table after the next identifier is seated at the free slot
pub next_seated : (slots : List ℕ) (shift : ℕ) (ids : List ℕ) (place at : ℕ) → IsTable slots shift (take place ids) → place < length ids → length ids ≤ 8388608 → HasNoRepeat ids → IsFree slots (first_slot_of shift (get_or ids place 0)) at → IsTable (set slots at place) shift (take (place + 1) ids)
next_seated slots shift ids place at table inside few distinct free =
    let size : length (take place ids) ≡ place = length-take-le place ids (omega arith) in
    let absent = λ (p : ℕ) (below : p < length (take place ids)) (here : get_or (take place ids) p 0 ≡ get_or ids place 0).
    let before : p < place = omega (arith, size, below) in
    distinct p place 0 before inside (sym (get_or-take place ids p 0 before) ∙ here)
    in
    let seated = table_seated slots shift (take place ids) (get_or ids place 0) at table (omega (arith, size)) free absent in
    rw (take_more ids place 0 inside)
    (subst (λ (n : ℕ). IsTable (set slots at n) shift (take place ids ++ get_or ids place 0 ∷ [])) size seated)

-- where the size is below what the room needs, that is twice the size at least
doubles : (size shift most least : ℕ) → size * 2 ^ shift ≡ 2 ^ 64 → most * 2 ^ least ≡ 2 ^ 64 → size < most → 2 * size ≤ most
doubles size shift most least whole all less = elim (cases_lt least shift) [
  | inl more ↦ elim (cases_lt most (2 * size)) [
    | inl short ↦
        let power : 2 ^ suc least ≡ 2 ^ least * 2 = pow-suc 2 least in
        let step : 2 ^ suc least ≤ 2 ^ shift = pow-le-pow_right (omega arith) (omega arith) in
        let one : size * (2 ^ least * 2) ≤ size * 2 ^ shift = mul-le-mul_left size (subst (λ (n : ℕ). n ≤ 2 ^ shift) power step) in
        let two : (most + 1) * 2 ^ least ≤ (2 * size) * 2 ^ least = mul-le-mul_right (2 ^ least) (omega arith) in
        let some = pow_pos least in
        absurd (omega (arith, one, two, some, whole, all))
    | inr enough ↦ enough
  ]
  | inr fewer ↦
      let step : 2 ^ shift ≤ 2 ^ least = pow-le-pow_right (omega arith) fewer in
      let one = mul-le-mul_left size step in
      let two : (size + 1) * 2 ^ least ≤ most * 2 ^ least = mul-le-mul_right (2 ^ least) (omega arith) in
      let some = pow_pos least in
      absurd (omega (arith, one, two, some, whole, all))
]

pub grows : (size shift capacity room : ℕ) → size * 2 ^ shift ≡ 2 ^ 64 → IsReserved capacity room → size < 2 * room → 2 * size ≤ capacity
grows size shift capacity room whole reserved less =
    let double = doubles size shift reserved.most reserved.shift whole reserved.whole (omega (arith, reserved.enough)) in
    omega (arith, double, reserved.held)

-- the identifier at the end, as those who put it see it
pub put_table : (ids ids' : List ℕ) (id : ℕ) (slots : List ℕ) (shift : ℕ) → ids' ≡ ids ++ id ∷ [] → IsTable slots shift ids → IsTable slots shift (take (length ids) ids')
put_table ids ids' id slots shift e table = rw (e, take-append_seam) table

pub put_last : (ids ids' : List ℕ) (id : ℕ) → ids' ≡ ids ++ id ∷ [] → get_or ids' (length ids) 0 ≡ id
put_last ids ids' id e = rw e (get_or-append_seam ids id [] 0)

pub put_distinct : (ids ids' : List ℕ) (id : ℕ) → ids' ≡ ids ++ id ∷ [] → HasNoRepeat ids → place_of ids id ≡ None → HasNoRepeat ids'
put_distinct ids ids' id e distinct none = subst HasNoRepeat (with_id-absent ids id none ∙ sym e) (distinct-with_id ids id distinct)

pub put_place : (ids ids' : List ℕ) (id : ℕ) → ids' ≡ ids ++ id ∷ [] → HasNoRepeat ids' → place_of ids' id ≡ Some (length ids)
put_place ids ids' id e distinct = place_of-at ids' id (length ids) distinct (rw e (omega (arith, length-append {A = ℕ}))) (put_last ids ids' id e)
