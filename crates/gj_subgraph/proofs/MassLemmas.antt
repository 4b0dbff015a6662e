-- From the window to the masses.
use Rattle.std.proofs.Common.{◌≡◌, ℕ, zero, suc, ◌+◌, ◌<◌, ◌≤◌, ◌∙◌, ◌++◌, ◌||◌, ◌&&◌, Bool, true, false, cond, nat_eq, List, [], ◌∷◌, All, length, fold, sum_by, take, get_or, map, filter, replicate, ap, sym, refl, arith}
use Rattle.std.proofs.lemmas.Bool.{ne_eqb}
use Rattle.std.proofs.lemmas.List.{take_more, take_all}
use Rattle.std.proofs.lemmas.List.Elements.{All-push}
use Rattle.std.proofs.lemmas.List.Sums.{sum_by-cons, fold_more, fold-append}
use mathlib.Core.Path.{fun_ext}
use Rattle.gj_base.specs.declared.item.Item.{Item}
use Rattle.gj_base.specs.declared.mask.Mask.{Mask}
use Rattle.gj_base.specs.Ends.{passes}
use Rattle.gj_base.specs.Tally.{with_number, with_pair}
use Rattle.gj_base.specs.Edges.{stands_in, edges_of}
use Rattle.gj_subgraph.specs.Masses.{count_of, users_of, posts_of, half_step, vertices, spread, starting, with_mass}
use Rattle.gj_subgraph.specs.Numbers.{units_in}
use Rattle.gj_subgraph.proofs.CountLemmas.{bit, Every, every_weaker, count_cons, count_stands, vertices_once, vertices_from}
use Rattle.gj_subgraph.proofs.LawLemmas.{sum_same, sum_plus, sum_pick}
use Rattle.gj_subgraph.proofs.NumberLemmas.{Distinct, vertices_distinct}
use Rattle.gj_subgraph.proofs.StepLemmas.{stands_vertices, units_at}

-- edges

map_push : (f : Item → ℕ) (xs : List Item) (x : Item) → map f (xs ++ x ∷ []) ≡ map f xs ++ f x ∷ []
map_push f [] x = refl
map_push f (y ∷ ys) x = ap (λ l. f y ∷ l) (map_push f ys x)

-- a column of edges, with one more
pub column_more : (f : Item → ℕ) (edges : List Item) (i : ℕ) (x : Item) (column more : List ℕ) (value : ℕ) → i < length edges → x ≡ get_or edges i x → value ≡ f x
    → column ≡ map f (take i edges) → more ≡ column ++ value ∷ [] → more ≡ map f (take (i + 1) edges)
column_more f edges i x column more value within at is was grown =
    let one : take (i + 1) edges ≡ take i edges ++ x ∷ [] = take_more edges i x within ∙ ap (λ y. take i edges ++ y ∷ []) (sym at) in
    rw (one, map_push f (take i edges) x, ← was, ← is) grown

pub column_whole : (f : Item → ℕ) (edges : List Item) (n : ℕ) → length edges ≤ n → map f (take n edges) ≡ map f edges
column_whole f edges n long = ap (map f) (take_all n edges long)

pub same_edges : (items : List Item) (seeds : List ℕ) (mask : Mask) → length (users_of (edges_of items seeds mask)) ≡ length (posts_of (edges_of items seeds mask))
same_edges items seeds mask = both (edges_of items seeds mask)
  where
    both : (edges : List Item) → length (users_of edges) ≡ length (posts_of edges)
    both [] = refl
    both (x ∷ xs) = ap suc (both xs)

-- there are no more users than seeds

and_right : (a b : Bool) → (a && b) ≡ true → b ≡ true
and_right true b e = e
and_right false b e = absurd (let bad : false ≡ true = e in cc)

pub users_stand : (items : List Item) (seeds : List ℕ) (mask : Mask) → Every (λ v. stands_in seeds v ≡ true) (users_of (edges_of items seeds mask))
unfolding edges_of
users_stand [] seeds mask = tt
users_stand (x ∷ xs) seeds mask = stand_case (passes mask x && stands_in seeds x.user) refl (users_stand xs seeds mask)
  where
    stand_case : (b : Bool) → (passes mask x && stands_in seeds x.user) ≡ b
        → Every (λ v. stands_in seeds v ≡ true) (users_of (filter (λ x. passes mask x && stands_in seeds x.user) xs))
        → Every (λ v. stands_in seeds v ≡ true)
        (users_of (cond b (x ∷ filter (λ x. passes mask x && stands_in seeds x.user) xs) (filter (λ x. passes mask x && stands_in seeds x.user) xs)))
    stand_case true e rest = (and_right (passes mask x) (stands_in seeds x.user) e, rest)
    stand_case false e rest = rest

count_swap : (seeds vs : List ℕ) → sum_by (λ v. count_of seeds v) vs ≡ sum_by (λ s. count_of vs s) seeds
count_swap [] vs = nothing vs
  where
    nothing : (vs : List ℕ) → sum_by (λ v. 0) vs ≡ 0
    nothing [] = refl
    nothing (v ∷ vs) = let a = sum_by-cons (λ v. 0) v vs in let b = nothing vs in omega (arith, a, b)
count_swap (s ∷ seeds) vs =
    let a = sum_same (λ v. count_of (s ∷ seeds) v) (λ v. cond (nat_eq s v) 1 0 + count_of seeds v) vs (each vs) in
    let b = sum_plus (λ v. cond (nat_eq s v) 1 0) (λ v. count_of seeds v) vs in
    let c = sum_pick s 1 vs in
    let d = count_swap seeds vs in
    let e = sum_by-cons (λ s. count_of vs s) s seeds in
    omega (arith, a, b, c, d, e)
  where
    each : (vs : List ℕ) → Every (λ v. count_of (s ∷ seeds) v ≡ cond (nat_eq s v) 1 0 + count_of seeds v) vs
    each [] = tt
    each (v ∷ vs) = (count_cons s seeds v, each vs)

at_least : (f : ℕ → ℕ) (vs : List ℕ) → Every (λ v. 0 < f v) vs → length vs ≤ sum_by f vs
at_least f [] h = omega arith
at_least f (v ∷ vs) h = let a = sum_by-cons f v vs in let b = at_least f vs h.1 in let c = h.0 in omega (arith, a, b, c)

at_most : (f : ℕ → ℕ) (vs : List ℕ) → ((v : ℕ) → f v ≤ 1) → sum_by f vs ≤ length vs
at_most f [] h = omega arith
at_most f (v ∷ vs) h = let a = sum_by-cons f v vs in let b = at_most f vs h in let c = h v in omega (arith, a, b, c)

pub few_from : (vs seeds : List ℕ) → Distinct vs → Every (λ v. stands_in seeds v ≡ true) vs → length vs ≤ length seeds
few_from vs seeds d h =
    let a = at_least (λ v. count_of seeds v) vs (every_weaker (λ v. stands_in seeds v ≡ true) (λ v. 0 < count_of seeds v) (λ v e. count_stands seeds v e) vs h) in
    let b = at_most (λ s. count_of vs s) seeds d in
    let c = count_swap seeds vs in
    omega (arith, a, b, c)

pub few_users : (items : List Item) (seeds : List ℕ) (mask : Mask) → length (vertices (users_of (edges_of items seeds mask))) ≤ length seeds
unfolding vertices
few_users items seeds mask =
    few_from (vertices (users_of (edges_of items seeds mask))) seeds (vertices_distinct (users_of (edges_of items seeds mask)))
    (vertices_from (λ v. stands_in seeds v ≡ true) (users_of (edges_of items seeds mask)) [] tt (users_stand items seeds mask))

-- the start

pub vertices_same : (side : List ℕ) (v : ℕ) → stands_in (vertices side) v ≡ stands_in side v
vertices_same side v = same_case (stands_in (vertices side) v) refl
  where
    not_none : (c : Bool) → stands_in side v ≡ c → stands_in (vertices side) v ≡ true → true ≡ c
    not_none true e f = refl
    not_none false e f =
        let more = count_stands (vertices side) v f in
        let none = vertices_once side v ∙ ap bit e in
        absurd (omega (arith, more, none))

    same_case : (b : Bool) → stands_in (vertices side) v ≡ b → b ≡ stands_in side v
    same_case true e = not_none (stands_in side v) refl e
    same_case false e = sym (stands_vertices side v e)

units_all : (names : List ℕ) (x v : ℕ) → units_in names (replicate (length names) x) v ≡ cond (stands_in names v) x 0
unfolding units_in
units_all [] x v = refl
units_all (n ∷ names) x v = all_case (nat_eq n v) (units_all names x v)
  where
    all_case : (b : Bool) → units_in names (replicate (length names) x) v ≡ cond (stands_in names v) x 0
        → cond b x (units_in names (replicate (length names) x) v) ≡ cond (b || stands_in names v) x 0
    all_case true e = refl
    all_case false e = e

pub start_is : (side names array : List ℕ) (n : ℕ) → names ≡ vertices side → n ≡ length names → array ≡ replicate n 1048576 → units_in names array ≡ starting side
start_is side names array n e l f =
    fun_ext (λ v. rw (f, l) (units_all names 1048576 v ∙ ap (λ b. cond b 1048576 0) (ap (λ vs. stands_in vs v) e ∙ vertices_same side v)))

-- half steps

pub spread_one : (n m : ℕ) (near far : List ℕ) (units : ℕ → ℕ) → n ≡ suc m → spread n near far units ≡ spread m far near (half_step near far units)
unfolding spread
spread_one n m near far units e = rw e refl

pub spread_none : (n : ℕ) (near far : List ℕ) (units : ℕ → ℕ) → n ≡ 0 → spread n near far units ≡ units
unfolding spread
spread_none n near far units e = rw e refl

-- masses

pub mass_more : (names units : List ℕ) (masses new : List (ℕ × ℕ)) (u : ℕ) → Distinct names → length units ≡ length names → u < length names
    → new ≡ cond (nat_eq (get_or units u 0) 0) masses (with_number masses (get_or names u 0) (get_or units u 0))
    → masses ≡ fold (with_mass (units_in names units)) [] (take u names) → new ≡ fold (with_mass (units_in names units)) [] (take (u + 1) names)
mass_more names units masses new u d l m e was =
    let here = units_at names units u d l m in
    let one = fold_more (with_mass (units_in names units)) [] names u 0 m in
    let two : with_mass (units_in names units) masses (get_or names u 0) ≡ new = rw (here) (sym e) in
    sym two ∙ ap (λ p. with_mass (units_in names units) p (get_or names u 0)) was ∙ sym one

-- the pair of a post that has units, put behind others
pub above_put : (pairs more : List (ℕ × ℕ)) (post units : ℕ) → more ≡ cond (nat_eq units 0) pairs (pairs ++ (post, units) ∷ [])
    → All (λ (x : ℕ × ℕ). 0 < x.1) pairs → All (λ (x : ℕ × ℕ). 0 < x.1) more
above_put pairs more post zero e above = rw e above
above_put pairs more post (suc n) e above =
    let some : nat_eq (suc n) 0 ≡ false = ne_eqb (suc n) 0 (λ is. omega arith) in
    rw (e, some) (All-push (λ (x : ℕ × ℕ). 0 < x.1) pairs (post, suc n) above (omega arith))

pub made_put : (b : Bool) (pairs more : List (ℕ × ℕ)) (post units : ℕ) → more ≡ cond b pairs (pairs ++ (post, units) ∷ [])
    → fold with_pair [] more ≡ cond b (fold with_pair [] pairs) (with_number (fold with_pair [] pairs) post units)
made_put true pairs more post units e = ap (fold with_pair []) e
made_put false pairs more post units e = ap (fold with_pair []) e ∙ fold-append with_pair [] pairs ((post, units) ∷ [])
