-- Numbers of vertices, edge by edge.
use Rattle.std.proofs.Common.{◌≡◌, ℕ, zero, suc, ◌+◌, ◌-◌, ◌<◌, ◌≤◌, ◌∙◌, ◌++◌, Bool, true, false, cond, nat_eq, List, [], ◌∷◌, length, take, get_or, set, ap, sym, refl, arith, inl, inr, length-append, get_or-set_same, get_or-set_other, length-set}
use Rattle.std.proofs.lemmas.Bool.{cases_lt}
use Rattle.std.proofs.lemmas.List.{length-take}
use Rattle.std.proofs.lemmas.List.Sums.{count_by-le-length}
use Rattle.std.proofs.lemmas.Bool.Decides.{nat_tests}
use Rattle.gj_base.specs.Edges.{stands_in}
use Rattle.gj_subgraph.specs.Masses.{count_of, with_vertex, vertices}
use Rattle.gj_subgraph.specs.Numbers.{ArePlaced, AreDegrees}
use Rattle.gj_subgraph.proofs.CountLemmas.{bit, eqb_self, count_cons, count_push, vertices_once}

-- no vertex stands there twice
abbrev pub Distinct : List ℕ → Type 0
Distinct names = (v : ℕ) → count_of names v ≤ 1

bit_le : (b : Bool) → bit b ≤ 1
bit_le true = omega arith
bit_le false = omega arith

pub vertices_distinct : (side : List ℕ) → Distinct (vertices side)
vertices_distinct side v = rw (vertices_once side v) (bit_le (stands_in side v))

distinct_tail : (x : ℕ) (xs : List ℕ) → Distinct (x ∷ xs) → Distinct xs
distinct_tail x xs h v = let one = count_cons x xs v in let two = h v in omega (arith, one, two)

count_at : (xs : List ℕ) (j : ℕ) → j < length xs → 0 < count_of xs (get_or xs j 0)
count_at [] j l = absurd (omega arith)
count_at (x ∷ xs) zero l = let one = count_cons x xs x in let two : bit (nat_eq x x) ≡ 1 = rw (eqb_self x) refl in omega (arith, one, two)
count_at (x ∷ xs) (suc j) l =
    let one = count_cons x xs (get_or xs j 0) in
    let two = count_at xs j (omega arith) in
    omega (arith, one, two)

head_once : (x : ℕ) (xs : List ℕ) (j : ℕ) → Distinct (x ∷ xs) → j < length xs → x ≡ get_or xs j 0 → ⊥
head_once x xs j h l e =
    let one = count_cons x xs x in
    let two = h x in
    let three = rw (← e) at (count_at xs j l) in
    let four : bit (nat_eq x x) ≡ 1 = rw (eqb_self x) refl in
    omega (arith, one, two, three, four)

-- distinct names tell numbers apart
pub number_told : (xs : List ℕ) → Distinct xs → (i j : ℕ) → i < length xs → j < length xs → get_or xs i 0 ≡ get_or xs j 0 → i ≡ j
number_told [] h i j l m e = absurd (omega arith)
number_told (x ∷ xs) h zero zero l m e = refl
number_told (x ∷ xs) h zero (suc j) l m e = absurd (head_once x xs j h (omega arith) e)
number_told (x ∷ xs) h (suc i) zero l m e = absurd (head_once x xs i h (omega arith) (sym e))
number_told (x ∷ xs) h (suc i) (suc j) l m e = ap suc (number_told xs (distinct_tail x xs h) i j (omega arith) (omega arith) e)

pub stands_at : (names : List ℕ) (n v : ℕ) → n < length names → get_or names n 0 ≡ v → stands_in names v ≡ true
stands_at [] n v l e = absurd (omega arith)
stands_at (x ∷ xs) zero v l e = rw (e, eqb_self v) refl
stands_at (x ∷ xs) (suc n) v l e = rw (stands_at xs n v (omega arith) e) (or_true (nat_eq x v))
  where
    or_true : (b : Bool) → elim b as (λ x. Bool → Bool) [ false ↦ λ c. c | true ↦ λ c. true ] true ≡ true
    or_true true = refl
    or_true false = refl

pub with_there : (names : List ℕ) (v : ℕ) → stands_in names v ≡ true → names ≡ with_vertex names v
with_there names v e = rw e refl

-- one more vertex keeps the numbers of the others

index_push : (xs : List ℕ) (x k : ℕ) → k < length xs → get_or (xs ++ x ∷ []) k 0 ≡ get_or xs k 0
index_push [] x k l = absurd (omega arith)
index_push (y ∷ ys) x zero l = refl
index_push (y ∷ ys) x (suc k) l = index_push ys x k (omega arith)

index_last : (xs : List ℕ) (x k : ℕ) → k ≡ length xs → get_or (xs ++ x ∷ []) k 0 ≡ x
index_last [] x zero e = refl
index_last [] x (suc k) e = absurd (omega arith)
index_last (y ∷ ys) x zero e = absurd (omega arith)
index_last (y ∷ ys) x (suc k) e = index_last ys x k (omega arith)

length_push : (xs : List ℕ) (x : ℕ) → length (xs ++ x ∷ []) ≡ length xs + 1
length_push xs x = length-append xs (x ∷ [])

index_grows : (names : List ℕ) (id k : ℕ) → k < length names → get_or (with_vertex names id) k 0 ≡ get_or names k 0
index_grows names id k l =
    elim (stands_in names id) as (λ b. get_or (cond b names (names ++ id ∷ [])) k 0 ≡ get_or names k 0)
    [ true ↦ refl | false ↦ index_push names id k l ]

length_grows : (names : List ℕ) (id : ℕ) → length names ≤ length (with_vertex names id)
length_grows names id =
    elim (stands_in names id) as (λ b. length names ≤ length (cond b names (names ++ id ∷ [])))
    [ true ↦ omega arith | false ↦ (let one = length_push names id in omega (arith, one)) ]

pub placed_push : (xs names places : List ℕ) (id n : ℕ) → ArePlaced xs names places → n < length (with_vertex names id)
    → get_or (with_vertex names id) n 0 ≡ id → ArePlaced (xs ++ id ∷ []) (with_vertex names id) (places ++ n ∷ [])
placed_push xs names places id n h l e = record {
  same_len = let one = length_push xs id in let two = length_push places n in omega (arith, one, two, h.same_len);
  in_range = λ k m. elim (cases_lt k (length xs)) [
    | inl g ↦ rw (index_push places n k (rw (h.same_len) g)) (let one = h.in_range k g in let two = length_grows names id in omega (arith, one, two))
    | inr g ↦ rw (index_last places n k (last k m g)) l
  ];
  named = λ k m. elim (cases_lt k (length xs)) [
    | inl g ↦ rw (index_push places n k (rw (h.same_len) g), index_push xs id k g, index_grows names id (get_or places k 0) (h.in_range k g)) (h.named k g)
    | inr g ↦ rw (index_last places n k (last k m g), index_last xs id k (last_side k m g)) e
  ];
}
  where
    last_side : (k : ℕ) → k < length (xs ++ id ∷ []) → length xs ≤ k → k ≡ length xs
    last_side k m g = let one = length_push xs id in omega (arith, one)

    last : (k : ℕ) → k < length (xs ++ id ∷ []) → length xs ≤ k → k ≡ length places
    last k m g = let one = length_push xs id in omega (arith, one, h.same_len)

-- one more edge at the vertex with number p

pub told_bit : (names : List ℕ) (p u : ℕ) → Distinct names → p < length names → u < length names
    → nat_eq (get_or names p 0) (get_or names u 0) ≡ nat_eq p u
told_bit names p u h l m = told_case (nat_eq p u) refl
  where
    told_case : (b : Bool) → nat_eq p u ≡ b → nat_eq (get_or names p 0) (get_or names u 0) ≡ b
    told_case true e = let same : p ≡ u = grind (arith, nat_tests) in rw same (eqb_self (get_or names u 0))
    told_case false e = differ (nat_eq (get_or names p 0) (get_or names u 0)) refl
      where
        differ : (c : Bool) → nat_eq (get_or names p 0) (get_or names u 0) ≡ c → c ≡ false
        differ false f = refl
        differ true f =
            let names_same : get_or names p 0 ≡ get_or names u 0 = grind (arith, nat_tests) in
            let same = number_told names h p u l m names_same in
            absurd (let self : nat_eq p u ≡ true = rw same (eqb_self u) in let bad : true ≡ false = sym self ∙ e in cc)

set_at : (xs : List ℕ) (p u y : ℕ) → p < length xs → get_or (set xs p y) u 0 ≡ cond (nat_eq p u) y (get_or xs u 0)
set_at xs p u y l = set_case (nat_eq p u) refl
  where
    set_case : (b : Bool) → nat_eq p u ≡ b → get_or (set xs p y) u 0 ≡ cond b y (get_or xs u 0)
    set_case true e = let same : u ≡ p = grind (arith, nat_tests) in rw same (get_or-set_same xs p y 0 l)
    set_case false e = get_or-set_other xs p u y 0 (λ same. absurd (let self : nat_eq p u ≡ true = rw same (eqb_self p) in let bad : true ≡ false = sym self ∙ e in cc))

-- an array that goes by numbers, with one more at p
pub added_at : (xs : List ℕ) (p u x : ℕ) → p < length xs → get_or (set xs p (get_or xs p 0 + x)) u 0 ≡ get_or xs u 0 + cond (nat_eq p u) x 0
added_at xs p u x l = rw (set_at xs p u (get_or xs p 0 + x) l) (added_case (nat_eq p u) refl)
  where
    added_case : (b : Bool) → nat_eq p u ≡ b → cond b (get_or xs p 0 + x) (get_or xs u 0) ≡ get_or xs u 0 + cond b x 0
    added_case true e = let same : p ≡ u = grind (arith, nat_tests) in rw same refl
    added_case false e = omega arith

pub taken_at : (xs : List ℕ) (p u : ℕ) → p < length xs → get_or (set xs p (get_or xs p 0 - 1)) u 0 ≡ get_or xs u 0 - bit (nat_eq p u)
taken_at xs p u l = rw (set_at xs p u (get_or xs p 0 - 1) l) (taken_case (nat_eq p u) refl)
  where
    taken_case : (b : Bool) → nat_eq p u ≡ b → cond b (get_or xs p 0 - 1) (get_or xs u 0) ≡ get_or xs u 0 - bit b
    taken_case true e = let same : p ≡ u = grind (arith, nat_tests) in rw same refl
    taken_case false e = omega arith

pub count_more : (names xs : List ℕ) (p u id : ℕ) → Distinct names → p < length names → u < length names → get_or names p 0 ≡ id
    → count_of (xs ++ id ∷ []) (get_or names u 0) ≡ count_of xs (get_or names u 0) + bit (nat_eq p u)
count_more names xs p u id h l m e =
    count_push xs id (get_or names u 0) ∙ ap (λ b. count_of xs (get_or names u 0) + bit b) (ap (λ x. nat_eq x (get_or names u 0)) (sym e) ∙ told_bit names p u h l m)

pub counted_push : (xs names degrees : List ℕ) (id p : ℕ) → Distinct names → AreDegrees xs names degrees → p < length names → get_or names p 0 ≡ id
    → AreDegrees (xs ++ id ∷ []) names (set degrees p (get_or degrees p 0 + 1))
counted_push xs names degrees id p h d l e = record {
  same_len = length-set degrees p (get_or degrees p 0 + 1) ∙ d.same_len;
  counted = λ u m.
      added_at degrees p u 1 (rw (d.same_len) l) ∙ ap (λ x. x + bit (nat_eq p u)) (d.counted u m) ∙ sym (count_more names xs p u id h l m e);
}

pub counted_none : (names degrees : List ℕ) → length degrees ≡ length names → ((u : ℕ) → get_or degrees u 0 ≡ 0) → AreDegrees [] names degrees
counted_none names degrees l z = record { same_len = l; counted = λ u m. z u }

pub take_whole : (n : ℕ) (xs : List ℕ) → length xs ≤ n → take n xs ≡ xs
take_whole zero [] h = refl
take_whole zero (x ∷ xs) h = absurd (omega arith)
take_whole (suc n) [] h = refl
take_whole (suc n) (x ∷ xs) h = ap (λ l. x ∷ l) (take_whole n xs (omega arith))

pub degree_le : (side names degrees : List ℕ) (i p : ℕ) → AreDegrees (take i side) names degrees → p < length names → get_or degrees p 0 ≤ i
degree_le side names degrees i p d l =
    let one = d.counted p l in
    let two = count_by-le-length (λ id. nat_eq id (get_or names p 0)) (take i side) in
    let three = length-take i side in
    omega (arith, one, two, three)
