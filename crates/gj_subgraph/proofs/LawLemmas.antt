-- The sum of the units is the same after each half step.
use Rattle.std.proofs.Common.{◌≡◌, ℕ, zero, suc, ◌+◌, ◌-◌, ◌*◌, ◌/◌, ◌%◌, ◌<◌, ◌∙◌, ◌++◌, min, Bool, true, false, cond, nat_eq, nat_lt, List, [], ◌∷◌, length, sum, sum_by, ap, sym, refl, arith}
use Rattle.std.proofs.lemmas.Bool.Decides.{nat_tests}
use Rattle.std.proofs.lemmas.List.Sums.{sum_by-cons}
use Rattle.gj_base.specs.Edges.{stands_in}
use Rattle.gj_subgraph.specs.Masses.{count_of, carried, carried_after, arrived, half_step, vertices, total_after, starting}
use Rattle.gj_subgraph.proofs.CountLemmas.{bit, Every, Covers, eqb_sym, eqb_same, count_cons, count_push, count_stands, vertices_stand, vertices_cover}

-- the edges of one vertex together carry its units

bit_lt : (a b : ℕ) → bit (nat_lt a b) ≡ min b (a + 1) - min b a
bit_lt a b = grind (arith, nat_tests)

pub length_carried : (units : ℕ → ℕ) (near before rest : List ℕ) → length (carried_after units near before rest) ≡ length rest
unfolding carried_after
length_carried units near before [] = refl
length_carried units near before (v ∷ rest) = ap suc (length_carried units near (before ++ v ∷ []) rest)

own_case : (b : Bool) (units : ℕ → ℕ) (near before rest : List ℕ) (w v n : ℕ) → nat_eq w v ≡ b
    → count_of (before ++ w ∷ []) v ≡ count_of before v + bit b
    → n ≡ count_of rest v * (units v / count_of near v)
    + (min (units v % count_of near v) (count_of (before ++ w ∷ []) v + count_of rest v) - min (units v % count_of near v) (count_of (before ++ w ∷ []) v))
    → cond b (carried units near before w) 0 + n
    ≡ (bit b + count_of rest v) * (units v / count_of near v)
    + (min (units v % count_of near v) (count_of before v + (bit b + count_of rest v)) - min (units v % count_of near v) (count_of before v))
own_case true units near before rest w v n e f g =
    let same : w ≡ v = eqb_same w v e in
    let one = bit_lt (count_of before v) (units v % count_of near v) in
    rw (same) (omega (arith, one, f, g))
own_case false units near before rest w v n e f g = omega (arith, f, g)

own_part : (units : ℕ → ℕ) (near before rest : List ℕ) (v : ℕ)
    → arrived rest (carried_after units near before rest) v
    ≡ count_of rest v * (units v / count_of near v)
    + (min (units v % count_of near v) (count_of before v + count_of rest v) - min (units v % count_of near v) (count_of before v))
unfolding arrived carried_after
own_part units near before [] v = omega arith
own_part units near before (w ∷ rest) v =
    rw (count_cons w rest v) (own_case (nat_eq w v) units near before rest w v _ refl (count_push before w v) (own_part units near (before ++ w ∷ []) rest v))

own_units : (units : ℕ → ℕ) (near : List ℕ) (v : ℕ) → 0 < count_of near v → arrived near (carried_after units near [] near) v ≡ units v
own_units units near v h = let all = own_part units near [] near v in omega (arith, all)

-- each edge arrives at one vertex

pub sum_same : (f g : ℕ → ℕ) (vs : List ℕ) → Every (λ v. f v ≡ g v) vs → sum_by f vs ≡ sum_by g vs
sum_same f g [] h = refl
sum_same f g (v ∷ vs) h = sum_by-cons f v vs ∙ (rw (h.0, sum_same f g vs h.1) refl) ∙ sym (sum_by-cons g v vs)

pub sum_plus : (f g : ℕ → ℕ) (vs : List ℕ) → sum_by (λ v. f v + g v) vs ≡ sum_by f vs + sum_by g vs
sum_plus f g [] = omega arith
sum_plus f g (v ∷ vs) =
    let a = sum_by-cons (λ v. f v + g v) v vs in
    let b = sum_by-cons f v vs in
    let c = sum_by-cons g v vs in
    let d = sum_plus f g vs in
    omega (arith, a, b, c, d)

pub sum_pick : (id load : ℕ) (vs : List ℕ) → sum_by (λ v. cond (nat_eq id v) load 0) vs ≡ count_of vs id * load
sum_pick id load [] = omega arith
sum_pick id load (v ∷ vs) =
    let a = sum_by-cons (λ v. cond (nat_eq id v) load 0) v vs in
    let b = count_cons v vs id in
    pick_case (nat_eq id v) id load v vs (sum_pick id load vs) a (b ∙ ap (λ x. bit x + count_of vs id) (eqb_sym v id))
  where
    pick_case : (b : Bool) (id load v : ℕ) (vs : List ℕ) → sum_by (λ v. cond (nat_eq id v) load 0) vs ≡ count_of vs id * load
        → sum_by (λ v. cond (nat_eq id v) load 0) (v ∷ vs) ≡ cond b load 0 + sum_by (λ v. cond (nat_eq id v) load 0) vs
        → count_of (v ∷ vs) id ≡ bit b + count_of vs id
        → sum_by (λ v. cond (nat_eq id v) load 0) (v ∷ vs) ≡ count_of (v ∷ vs) id * load
    pick_case true id load v vs e f g = rw g (omega (arith, e, f))
    pick_case false id load v vs e f g = rw g (omega (arith, e, f))

pub arrived_sum : (side loads vs : List ℕ) → length side ≡ length loads → Covers vs side → sum_by (arrived side loads) vs ≡ sum loads
unfolding arrived
arrived_sum [] [] vs l h = sum_zero vs
  where
    sum_zero : (vs : List ℕ) → sum_by (λ v. 0) vs ≡ 0
    sum_zero [] = refl
    sum_zero (v ∷ vs) = let a = sum_by-cons (λ v. 0) v vs in let b = sum_zero vs in omega (arith, a, b)
arrived_sum [] (load ∷ loads) vs l h = absurd (omega arith)
arrived_sum (id ∷ side) [] vs l h = absurd (omega arith)
arrived_sum (id ∷ side) (load ∷ loads) vs l h =
    let a = sum_plus (λ v. cond (nat_eq id v) load 0) (arrived side loads) vs in
    let b = sum_pick id load vs in
    let c = arrived_sum side loads vs (omega arith) h.1 in
    let d = sum_by-cons (λ x. x) load loads in
    let one = h.0 in
    let e : count_of vs id * load ≡ load = rw one (omega arith) in
    omega (arith, a, b, c, d, e)

-- the law

pub near_sum : (units : ℕ → ℕ) (near vs : List ℕ) → Covers vs near → Every (λ v. stands_in near v ≡ true) vs
    → sum (carried_after units near [] near) ≡ sum_by units vs
near_sum units near vs h g =
    sym (arrived_sum near (carried_after units near [] near) vs (sym (length_carried units near [] near)) h)
    ∙ sum_same (arrived near (carried_after units near [] near)) units vs (owned vs g)
  where
    owned : (vs : List ℕ) → Every (λ v. stands_in near v ≡ true) vs → Every (λ v. arrived near (carried_after units near [] near) v ≡ units v) vs
    owned [] h = tt
    owned (v ∷ vs) h = (own_units units near v (count_stands near v h.0), owned vs h.1)

pub step_sum : (near far : List ℕ) (units : ℕ → ℕ) → length near ≡ length far
    → sum_by (half_step near far units) (vertices far) ≡ sum_by units (vertices near)
unfolding half_step
step_sum near far units l =
    arrived_sum far (carried_after units near [] near) (vertices far) (sym l ∙ sym (length_carried units near [] near)) (vertices_cover far)
    ∙ near_sum units near (vertices near) (vertices_cover near) (vertices_stand near)

pub total_same : (n : ℕ) (near far : List ℕ) (units : ℕ → ℕ) → length near ≡ length far
    → total_after n near far units ≡ sum_by units (vertices near)
unfolding total_after
total_same zero near far units l = refl
total_same (suc n) near far units l = total_same n far near (half_step near far units) (sym l) ∙ step_sum near far units l

start_sum : (users vs : List ℕ) → Every (λ v. stands_in users v ≡ true) vs → sum_by (starting users) vs ≡ 1048576 * length vs
start_sum users [] h = refl
start_sum users (v ∷ vs) h =
    let a = sum_by-cons (starting users) v vs in
    let b = start_sum users vs h.1 in
    let c : starting users v ≡ 1048576 = rw (h.0) refl in
    omega (arith, a, b, c)

pub total_law : (n : ℕ) (users posts : List ℕ) → length users ≡ length posts
    → total_after n users posts (starting users) ≡ 1048576 * length (vertices users)
total_law n users posts l = total_same n users posts (starting users) l ∙ start_sum users (vertices users) (vertices_stand users)
