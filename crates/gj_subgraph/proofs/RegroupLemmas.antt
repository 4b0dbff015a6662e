-- A half step needs no more than the order of the edges at each near vertex.
use Rattle.std.proofs.Common.{◌≡◌, ℕ, zero, suc, ◌+◌, ◌*◌, ◌/◌, ◌%◌, ◌<◌, ◌∙◌, ◌++◌, ◌||◌, Bool, true, false, cond, nat_eq, nat_lt, List, [], ◌∷◌, length, sum_by, ap, sym, refl, arith}
use Rattle.std.proofs.lemmas.List.Sums.{sum_by-cons}
use mathlib.Core.Path.{fun_ext}
use Rattle.gj_base.specs.Edges.{stands_in}
use Rattle.gj_subgraph.specs.Masses.{count_of, carried, carried_after, arrived, half_step, vertices}
use Rattle.gj_subgraph.specs.Regrouped.{far_at, HaveSameEdges}
use Rattle.gj_subgraph.proofs.CountLemmas.{bit, Every, Covers, every_weaker, eqb_same, count_cons, count_push, count_stands, stands_self, vertices_once, vertices_cover}
use Rattle.gj_subgraph.proofs.LawLemmas.{sum_same, sum_plus, sum_pick}

-- what the edges of a vertex with x units and d edges bring to v, from the edge with index j on
abbrev pub brought : (x d j : ℕ) (ends : List ℕ) (v : ℕ) → ℕ
brought x d j [] v = 0
brought x d j (end ∷ ends) v = cond (nat_eq end v) (x / d + bit (nat_lt j (x % d))) 0 + brought x d (j + 1) ends v

-- what the edges of each vertex bring, from those after the ones before
abbrev pub each_brought : (units : ℕ → ℕ) (near before rest far : List ℕ) (v u : ℕ) → ℕ
each_brought units near before rest far v u = brought (units u) (count_of near u) (count_of before u) (far_at rest far u) v

none_brought : (units : ℕ → ℕ) (near before far : List ℕ) (v : ℕ) (vs : List ℕ) → sum_by (each_brought units near before [] far v) vs ≡ 0
unfolding far_at
none_brought units near before far v [] = refl
none_brought units near before far v (u ∷ vs) =
    let one = sum_by-cons (each_brought units near before [] far v) u vs in
    let two = none_brought units near before far v vs in
    omega (arith, one, two)

one_brought : (b : Bool) (units : ℕ → ℕ) (near before : List ℕ) (w end v u n : ℕ) (ends : List ℕ) → nat_eq w u ≡ b → n ≡ count_of before u + bit b
    → brought (units u) (count_of near u) (count_of before u) (cond b (end ∷ ends) ends) v
    ≡ cond b (cond (nat_eq end v) (carried units near before w) 0) 0 + brought (units u) (count_of near u) n ends v
one_brought true units near before w end v u n ends e f =
    let same : w ≡ u = eqb_same w u e in
    let next : n ≡ count_of before u + 1 = f in
    rw (same, next) refl
one_brought false units near before w end v u n ends e f =
    let next : n ≡ count_of before u = omega (arith, f) in
    rw next (omega arith)

each_more : (units : ℕ → ℕ) (near before rest far : List ℕ) (w end v : ℕ) (vs : List ℕ)
    → Every (λ u. each_brought units near before (w ∷ rest) (end ∷ far) v u
    ≡ cond (nat_eq w u) (cond (nat_eq end v) (carried units near before w) 0) 0 + each_brought units near (before ++ w ∷ []) rest far v u) vs
unfolding far_at
each_more units near before rest far w end v [] = tt
each_more units near before rest far w end v (u ∷ vs) = (
  one_brought (nat_eq w u) units near before w end v u (count_of (before ++ w ∷ []) u) (far_at rest far u) refl (count_push before w u),
  each_more units near before rest far w end v vs,
)

-- what arrives is what the edges of each vertex bring
pub arrived_each : (units : ℕ → ℕ) (near before rest far : List ℕ) (v : ℕ) (vs : List ℕ) → length rest ≡ length far → Covers vs rest
    → arrived far (carried_after units near before rest) v ≡ sum_by (each_brought units near before rest far v) vs
unfolding arrived carried_after
arrived_each units near before [] [] v vs l h = sym (none_brought units near before [] v vs)
arrived_each units near before [] (end ∷ far) v vs l h = absurd (omega arith)
arrived_each units near before (w ∷ rest) [] v vs l h = absurd (omega arith)
arrived_each units near before (w ∷ rest) (end ∷ far) v vs l h =
    let load = cond (nat_eq end v) (carried units near before w) 0 in
    let one = sum_same (each_brought units near before (w ∷ rest) (end ∷ far) v) (λ u. cond (nat_eq w u) load 0 + each_brought units near (before ++ w ∷ []) rest far v u)
    vs (each_more units near before rest far w end v vs) in
    let two = sum_plus (λ u. cond (nat_eq w u) load 0) (each_brought units near (before ++ w ∷ []) rest far v) vs in
    let three = sum_pick w load vs in
    let once = h.0 in
    let four : count_of vs w * load ≡ load = rw once (omega arith) in
    let five = arrived_each units near (before ++ w ∷ []) rest far v vs (omega arith) h.1 in
    omega (arith, one, two, three, four, five)

pub count_far : (near far : List ℕ) (u : ℕ) → length near ≡ length far → count_of near u ≡ length (far_at near far u)
unfolding far_at
count_far [] far u l = refl
count_far (w ∷ near) [] u l = absurd (omega arith)
count_far (w ∷ near) (end ∷ far) u l =
    let one = count_cons w near u in
    let two = count_far near far u (omega arith) in
    far_case (nat_eq w u) (count_of (w ∷ near) u) (count_of near u) end (far_at near far u) one two
  where
    far_case : (b : Bool) (n m end : ℕ) (ends : List ℕ) → n ≡ bit b + m → m ≡ length ends → n ≡ length (cond b (end ∷ ends) ends)
    far_case true n m end ends e f = omega (arith, e, f)
    far_case false n m end ends e f = omega (arith, e, f)

pub counted_stands : (xs : List ℕ) (v : ℕ) → 0 < count_of xs v → stands_in xs v ≡ true
counted_stands [] v l = absurd (omega arith)
counted_stands (x ∷ xs) v l = stand_case (nat_eq x v) (count_cons x xs v) (counted_stands xs v)
  where
    stand_case : (b : Bool) → count_of (x ∷ xs) v ≡ bit b + count_of xs v → (0 < count_of xs v → stands_in xs v ≡ true) → (b || stands_in xs v) ≡ true
    stand_case true e f = refl
    stand_case false e f = f (omega (arith, e, l))

pub same_count : (near far near' far' : List ℕ) (u : ℕ) → HaveSameEdges near far near' far' → count_of near u ≡ count_of near' u
same_count near far near' far' u same =
    count_far near far u same.lined ∙ ap (λ l. length l) (same.ends u) ∙ sym (count_far near' far' u same.lined_too)

pub covers_other : (near far near' far' : List ℕ) → HaveSameEdges near far near' far' → Covers (vertices near) near'
covers_other near far near' far' same =
    every_weaker (λ v. stands_in near' v ≡ true) (λ v. count_of (vertices near) v ≡ 1)
    (λ v h. let some = count_stands near' v h in let one = same_count near far near' far' v same in
    vertices_once near v ∙ ap bit (counted_stands near v (omega (arith, some, one))))
    near' (stands_self near')

brought_same : (near far near' far' : List ℕ) (units : ℕ → ℕ) (v : ℕ) (vs : List ℕ) → HaveSameEdges near far near' far'
    → Every (λ u. each_brought units near [] near far v u ≡ each_brought units near' [] near' far' v u) vs
brought_same near far near' far' units v [] same = tt
brought_same near far near' far' units v (u ∷ vs) same =
    (rw (same_count near far near' far' u same, same.ends u) refl, brought_same near far near' far' units v vs same)

-- a half step over the same edges in another order gives the same units
pub half_step_same : (near far near' far' : List ℕ) (units : ℕ → ℕ) → HaveSameEdges near far near' far'
    → half_step near far units ≡ half_step near' far' units
unfolding half_step
half_step_same near far near' far' units same = fun_ext (λ v.
    arrived_each units near [] near far v (vertices near) same.lined (vertices_cover near)
    ∙ sum_same (each_brought units near [] near far v) (each_brought units near' [] near' far' v) (vertices near) (brought_same near far near' far' units v (vertices near) same)
    ∙ sym (arrived_each units near' [] near' far' v (vertices near) same.lined_too (covers_other near far near' far' same)))

-- the edges of each vertex lead to a far vertex as often as all do

count_push_case : (b : Bool) (end v n : ℕ) (ends : List ℕ) → count_of (cond b (end ∷ ends) ends) v ≡ cond b (bit (nat_eq end v)) 0 + count_of ends v
count_push_case true end v n ends = count_cons end ends v
count_push_case false end v n ends = omega arith

count_each_more : (near far : List ℕ) (w end v : ℕ) (vs : List ℕ)
    → Every (λ u. count_of (far_at (w ∷ near) (end ∷ far) u) v ≡ cond (nat_eq w u) (bit (nat_eq end v)) 0 + count_of (far_at near far u) v) vs
unfolding far_at
count_each_more near far w end v [] = tt
count_each_more near far w end v (u ∷ vs) = (count_push_case (nat_eq w u) end v 0 (far_at near far u), count_each_more near far w end v vs)

count_none : (far : List ℕ) (v : ℕ) (vs : List ℕ) → sum_by (λ u. count_of (far_at [] far u) v) vs ≡ 0
unfolding far_at
count_none far v [] = refl
count_none far v (u ∷ vs) = let one = sum_by-cons (λ u. count_of (far_at [] far u) v) u vs in let two = count_none far v vs in omega (arith, one, two)

count_each : (near far : List ℕ) (v : ℕ) (vs : List ℕ) → length near ≡ length far → Covers vs near
    → count_of far v ≡ sum_by (λ u. count_of (far_at near far u) v) vs
count_each [] [] v vs l h = sym (count_none [] v vs)
count_each [] (end ∷ far) v vs l h = absurd (omega arith)
count_each (w ∷ near) [] v vs l h = absurd (omega arith)
count_each (w ∷ near) (end ∷ far) v vs l h =
    let load = bit (nat_eq end v) in
    let zero = count_cons end far v in
    let one = sum_same (λ u. count_of (far_at (w ∷ near) (end ∷ far) u) v) (λ u. cond (nat_eq w u) load 0 + count_of (far_at near far u) v) vs (count_each_more near far w end v vs) in
    let two = sum_plus (λ u. cond (nat_eq w u) load 0) (λ u. count_of (far_at near far u) v) vs in
    let three = sum_pick w load vs in
    let once = h.0 in
    let four : count_of vs w * load ≡ load = rw once (omega arith) in
    let five = count_each near far v vs (omega arith) h.1 in
    omega (arith, zero, one, two, three, four, five)

each_same : (near far near' far' : List ℕ) (v : ℕ) (vs : List ℕ) → HaveSameEdges near far near' far'
    → Every (λ u. count_of (far_at near far u) v ≡ count_of (far_at near' far' u) v) vs
each_same near far near' far' v [] same = tt
each_same near far near' far' v (u ∷ vs) same = (ap (λ l. count_of l v) (same.ends u), each_same near far near' far' v vs same)

pub same_far_count : (near far near' far' : List ℕ) (v : ℕ) → HaveSameEdges near far near' far' → count_of far v ≡ count_of far' v
same_far_count near far near' far' v same =
    count_each near far v (vertices near) same.lined (vertices_cover near)
    ∙ sum_same (λ u. count_of (far_at near far u) v) (λ u. count_of (far_at near' far' u) v) (vertices near) (each_same near far near' far' v (vertices near) same)
    ∙ sym (count_each near' far' v (vertices near) same.lined_too (covers_other near far near' far' same))

pub uncounted : (xs : List ℕ) (v : ℕ) → stands_in xs v ≡ false → count_of xs v ≡ 0
uncounted xs v e = zero_case (count_of xs v) (counted_stands xs v)
  where
    zero_case : (n : ℕ) → (0 < n → stands_in xs v ≡ true) → n ≡ 0
    zero_case zero f = refl
    zero_case (suc n) f = absurd (let bad : true ≡ false = sym (f (omega arith)) ∙ e in cc)
