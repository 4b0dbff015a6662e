-- Identifiers in the order of their first appearance.
use Rattle.std.proofs.Common.{◌≡◌, ◌≢◌, ℕ, zero, suc, ◌+◌, ◌<◌, ◌≤◌, eqb, cond, List, [], ◌∷◌, ◌++◌, length, get_or, Option, Some, None, is_some, arith, ap, refl, subst, sym, ◌∙◌, inl, inr, ◌⊎◌, length-append}
use Rattle.std.specs.List.{fold}
use Rattle.std.proofs.lemmas.Bool.{eqb-true, eq-eqb, ne_eqb}
use Rattle.std.proofs.lemmas.Grind.{common_steps}
use Rattle.std.proofs.lemmas.List.{get_or_append_left, get_or_default, get_or_push, length_push}
use Rattle.std.proofs.lemmas.List.Quantifiers.{position-Some, all_pairs_push}
use Rattle.std.proofs.lemmas.List.Sums.{position_or_len_is, fold-append}
use Rattle.gj_base.specs.Firsts.{place_of, with_id, number_in, firsts, HasNoRepeat}

-- in a list of distinct identifiers the number of one is its place
pub number_in-at : (ids : List ℕ) (p : ℕ) → HasNoRepeat ids → p < length ids → number_in ids (get_or ids p 0) ≡ p
number_in-at ids p distinct below =
    position_or_len_is (λ other. eqb other (get_or ids p 0)) ids p 0 (omega arith)
    (λ k before. ne_eqb (get_or ids k 0) (get_or ids p 0) (λ same. distinct k p 0 before below same))
    (λ _. eq-eqb (get_or ids p 0) (get_or ids p 0) refl)

pub place_of-at : (ids : List ℕ) (id p : ℕ) → HasNoRepeat ids → p < length ids → get_or ids p 0 ≡ id → place_of ids id ≡ Some p
place_of-at ids id p distinct below here =
    let first : number_in ids id ≡ p = ap (λ (n : ℕ). number_in ids n) (sym here) ∙ number_in-at ids p distinct below in
    grind (arith, common_steps, first)

-- an identifier that stands at no place is absent
pub place_of-none : (ids : List ℕ) (id : ℕ) → ((p : ℕ) → p < length ids → get_or ids p 0 ≢ id) → place_of ids id ≡ None
place_of-none ids id absent =
    let first : number_in ids id ≡ length ids =
    position_or_len_is (λ other. eqb other id) ids (length ids) 0 (omega arith)
    (λ k before. ne_eqb (get_or ids k 0) id (absent k before))
    (λ below. absurd (omega arith))
    in
    grind (arith, common_steps, first)

-- what a place that was found says
pub place_of-Some : (ids : List ℕ) (id p : ℕ) → place_of ids id ≡ Some p → (p < length ids) × (get_or ids p 0 ≡ id)
place_of-Some ids id p found =
    let facts = position-Some (λ other. eqb other id) ids p 0 found in
    (facts.0, eqb-true _ _ facts.1)

-- a place is found, or the identifier is nowhere
pub cases_place_of : (ids : List ℕ) (id : ℕ) → ((p : ℕ) × (place_of ids id ≡ Some p)) ⊎ (place_of ids id ≡ None)
cases_place_of ids id = elim (place_of ids id) as (λ (o : Option ℕ). ((p : ℕ) × (o ≡ Some p)) ⊎ (o ≡ None)) [
  | Some p ↦ inl (p, refl)
  | None ↦ inr refl
]

pub with_id-present : (ids : List ℕ) (id p : ℕ) → place_of ids id ≡ Some p → with_id ids id ≡ ids
with_id-present ids id p found = ap (λ (o : Option ℕ). cond (is_some o) ids (ids ++ id ∷ [])) found

pub with_id-absent : (ids : List ℕ) (id : ℕ) → place_of ids id ≡ None → with_id ids id ≡ ids ++ id ∷ []
with_id-absent ids id absent = ap (λ (o : Option ℕ). cond (is_some o) ids (ids ++ id ∷ [])) absent

absent-of_None : (ids : List ℕ) (id p : ℕ) → HasNoRepeat ids → place_of ids id ≡ None → p < length ids → get_or ids p 0 ≢ id
absent-of_None ids id p distinct none below here =
    let found = place_of-at ids id p distinct below here in absurd (cc (none, found))

-- an appearance keeps the list without a repeat
pub distinct-with_id : (ids : List ℕ) (id : ℕ) → HasNoRepeat ids → HasNoRepeat (with_id ids id)
distinct-with_id ids id distinct = elim (cases_place_of ids id) [
  | inl found ↦ subst HasNoRepeat (sym (with_id-present ids id found.0 found.1)) distinct
  | inr absent ↦ subst HasNoRepeat (sym (with_id-absent ids id absent))
      (all_pairs_push (λ one other. one ≢ other) ids id distinct
      (λ k d below. rw (get_or_default ids k d 0 below) (absent-of_None ids id k distinct absent below)))
]

-- an appearance keeps each identifier at its place
pub get_or-with_id : (ids : List ℕ) (id p : ℕ) → p < length ids → get_or (with_id ids id) p 0 ≡ get_or ids p 0
get_or-with_id ids id p below = elim (cases_place_of ids id) [
  | inl found ↦ rw (with_id-present ids id found.0 found.1)
  | inr absent ↦ rw (with_id-absent ids id absent) (get_or_append_left ids (id ∷ []) 0 p below)
]

pub length-with_id : (ids : List ℕ) (id : ℕ) → (length ids ≤ length (with_id ids id)) × (length (with_id ids id) ≤ length ids + 1)
length-with_id ids id = elim (cases_place_of ids id) [
  | inl found ↦ rw (with_id-present ids id found.0 found.1) (omega arith, omega arith)
  | inr absent ↦ rw (with_id-absent ids id absent) (omega (arith, length-append {A = ℕ}), omega (arith, length-append {A = ℕ}))
]

-- an appearance keeps the place of each identifier
pub place_of-with_id : (ids : List ℕ) (id other p : ℕ) → HasNoRepeat ids → place_of ids other ≡ Some p → place_of (with_id ids id) other ≡ Some p
place_of-with_id ids id other p distinct found =
    let facts = place_of-Some ids other p found in
    place_of-at (with_id ids id) other p (distinct-with_id ids id distinct)
    (omega (arith, (length-with_id ids id).0, facts.0))
    (get_or-with_id ids id p facts.0 ∙ facts.1)

pub firsts-nil : firsts [] ≡ []
unfolding firsts
firsts-nil = refl

pub firsts-push : (ids : List ℕ) (id : ℕ) → firsts (ids ++ id ∷ []) ≡ with_id (firsts ids) id
unfolding firsts
firsts-push ids id = fold-append with_id [] ids (id ∷ [])

distinct_from : (start ids : List ℕ) → HasNoRepeat start → HasNoRepeat (fold with_id start ids)
distinct_from start [] distinct = distinct
distinct_from start (id ∷ ids) distinct = distinct_from (with_id start id) ids (distinct-with_id start id distinct)

pub distinct-firsts : (ids : List ℕ) → HasNoRepeat (firsts ids)
unfolding firsts
distinct-firsts ids = distinct_from [] ids (λ i j d lt below. absurd (omega arith))

few_from : (start ids : List ℕ) → length (fold with_id start ids) ≤ length start + length ids
few_from start [] = omega arith
few_from start (id ∷ ids) = omega (arith, few_from (with_id start id) ids, (length-with_id start id).1)

pub length-firsts : (ids : List ℕ) → length (firsts ids) ≤ length ids
unfolding firsts
length-firsts ids = omega (arith, few_from [] ids)

-- the identifier stands in the list
abbrev pub IsIn : List ℕ → ℕ → Type 0
IsIn ids id = (p : ℕ) × (p < length ids) × (get_or ids p 0 ≡ id)

in-with_id : (ids : List ℕ) (id other : ℕ) → IsIn ids other → IsIn (with_id ids id) other
in-with_id ids id other held = (held.0, omega (arith, held.1, (length-with_id ids id).0), get_or-with_id ids id held.0 held.1 ∙ held.2)

in-new : (ids : List ℕ) (id : ℕ) → IsIn (with_id ids id) id
in-new ids id = elim (cases_place_of ids id) [
  | inl found ↦ let facts = place_of-Some ids id found.0 found.1 in in-with_id ids id id (found.0, facts.0, facts.1)
  | inr absent ↦ subst (λ (l : List ℕ). IsIn l id) (sym (with_id-absent ids id absent)) (length ids, omega (arith, length_push ids id), get_or_push ids id 0 (length ids) refl)
]

in_from : (start ids : List ℕ) (id : ℕ) → IsIn start id → IsIn (fold with_id start ids) id
in_from start [] id held = held
in_from start (other ∷ ids) id held = in_from (with_id start other) ids id (in-with_id start other id held)

each_from : (start ids : List ℕ) (i : ℕ) → i < length ids → IsIn (fold with_id start ids) (get_or ids i 0)
each_from start [] i h = absurd (omega arith)
each_from start (id ∷ ids) zero h = in_from (with_id start id) ids id (in-new start id)
each_from start (id ∷ ids) (suc i) h = each_from (with_id start id) ids i (omega arith)

-- each identifier stands among the first ones
pub in-firsts : (ids : List ℕ) (i : ℕ) → i < length ids → IsIn (firsts ids) (get_or ids i 0)
unfolding firsts
in-firsts ids i h = each_from [] ids i h

-- what has a number is at its place
pub numbered-in : (ids : List ℕ) (id : ℕ) → HasNoRepeat ids → IsIn ids id → (number_in ids id < length ids) × (get_or ids (number_in ids id) 0 ≡ id)
numbered-in ids id distinct held =
    let number : number_in ids id ≡ held.0 = ap (number_in ids) (sym held.2) ∙ number_in-at ids held.0 distinct held.1 in
    (omega (arith, number, held.1), ap (λ (n : ℕ). get_or ids n 0) number ∙ held.2)

pub found-in : (ids : List ℕ) (id : ℕ) → HasNoRepeat ids → IsIn ids id → place_of ids id ≡ Some (number_in ids id)
found-in ids id distinct held = let facts = numbered-in ids id distinct held in place_of-at ids id (number_in ids id) distinct facts.0 facts.1
