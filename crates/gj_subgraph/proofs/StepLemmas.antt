-- A half step, edge by edge.
use Rattle.std.proofs.Common.{◌≡◌, ℕ, zero, suc, ◌+◌, ◌-◌, ◌/◌, ◌%◌, ◌<◌, ◌≤◌, ◌∙◌, ◌++◌, ◌||◌, min, Bool, true, false, cond, nat_eq, nat_lt, List, [], ◌∷◌, length, sum, sum_by, take, drop, get_or, set, ap, sym, refl, arith, append_assoc, append-nil, length-set}
use Rattle.std.proofs.lemmas.Bool.Decides.{nat_tests}
use Rattle.std.proofs.lemmas.List.{take_more, length-take, take-append-drop}
use Rattle.std.proofs.lemmas.List.Sums.{sum_by-cons, sum_by-append}
use mathlib.Core.Path.{fun_ext}
use Rattle.gj_base.specs.Edges.{stands_in}
use Rattle.gj_subgraph.specs.Masses.{count_of, carried, carried_after, arrived, half_step, vertices}
use Rattle.gj_subgraph.specs.Numbers.{ArePlaced, AreDegrees, units_in}
use Rattle.gj_subgraph.proofs.CountLemmas.{bit, eqb_sym, Every, eqb_self, count_cons, count_stands, vertices_once, vertices_stand, vertices_cover}
use Rattle.gj_subgraph.proofs.LawLemmas.{length_carried, near_sum, step_sum}
use Rattle.gj_subgraph.proofs.NumberLemmas.{Distinct, vertices_distinct, count_more, added_at, taken_at, take_whole, stands_at, told_bit}

pub carried_append : (units : ℕ → ℕ) (near before xs ys : List ℕ)
    → carried_after units near before (xs ++ ys) ≡ carried_after units near before xs ++ carried_after units near (before ++ xs) ys
unfolding carried_after
carried_append units near before [] ys = rw (append-nil before) refl
carried_append units near before (x ∷ xs) ys =
    ap (λ l. carried units near before x ∷ l)
    (carried_append units near (before ++ x ∷ []) xs ys ∙ ap (λ b. carried_after units near (before ++ x ∷ []) xs ++ carried_after units near b ys) (append_assoc before (x ∷ []) xs))

carried_one : (units : ℕ → ℕ) (near before : List ℕ) (v : ℕ) → carried_after units near before (v ∷ []) ≡ carried units near before v ∷ []
unfolding carried_after
carried_one units near before v = refl

pub carried_push : (units : ℕ → ℕ) (near xs : List ℕ) (v : ℕ)
    → carried_after units near [] (xs ++ v ∷ []) ≡ carried_after units near [] xs ++ carried units near xs v ∷ []
carried_push units near xs v = carried_append units near [] xs (v ∷ []) ∙ ap (λ l. carried_after units near [] xs ++ l) (carried_one units near xs v)

pub arrived_push : (far loads : List ℕ) (id load v : ℕ) → length far ≡ length loads
    → arrived (far ++ id ∷ []) (loads ++ load ∷ []) v ≡ arrived far loads v + cond (nat_eq id v) load 0
unfolding arrived
arrived_push [] [] id load v l = omega arith
arrived_push [] (x ∷ loads) id load v l = absurd (omega arith)
arrived_push (x ∷ far) [] id load v l = absurd (omega arith)
arrived_push (x ∷ far) (y ∷ loads) id load v l = let more = arrived_push far loads id load v (omega arith) in omega (arith, more)

cond_le : (b : Bool) (x : ℕ) → cond b x 0 ≤ x
cond_le true x = omega arith
cond_le false x = omega arith

pub arrived_le : (far loads : List ℕ) (v : ℕ) → arrived far loads v ≤ sum loads
unfolding arrived
arrived_le [] loads v = omega arith
arrived_le (x ∷ far) [] v = omega arith
arrived_le (x ∷ far) (y ∷ loads) v =
    let one = arrived_le far loads v in
    let two = sum_by-cons (λ n. n) y loads in
    let three = cond_le (nat_eq x v) y in
    omega (arith, one, two, three)

pub arrived_none : (far loads : List ℕ) (v : ℕ) → stands_in far v ≡ false → arrived far loads v ≡ 0
unfolding arrived
arrived_none [] loads v e = refl
arrived_none (x ∷ far) [] v e = refl
arrived_none (x ∷ far) (y ∷ loads) v e = none_case (nat_eq x v) far v (arrived far loads v) y e (arrived_none far loads v)
  where
    none_case : (b : Bool) (far : List ℕ) (v rest y : ℕ) → (b || stands_in far v) ≡ false → (stands_in far v ≡ false → rest ≡ 0) → cond b y 0 + rest ≡ 0
    none_case true far v rest y e f = absurd (let bad : true ≡ false = e in cc)
    none_case false far v rest y e f = let one = f e in omega (arith, one)

-- the front of what the edges carry, and the next of it, are within the whole
pub next_within : (units : ℕ → ℕ) (near : List ℕ) (k : ℕ) → k < length near
    → sum (carried_after units near [] (take k near)) + carried units near (take k near) (get_or near k 0) ≤ sum (carried_after units near [] near)
next_within units near k l =
    let parts = take-append-drop (k + 1) near in
    let whole = carried_append units near [] (take (k + 1) near) (drop (k + 1) near) in
    let total = sum_by-append (λ n. n) (carried_after units near [] (take (k + 1) near)) (carried_after units near (take (k + 1) near) (drop (k + 1) near)) in
    let front_is : carried_after units near [] (take (k + 1) near) ≡ carried_after units near [] (take k near) ++ carried units near (take k near) (get_or near k 0) ∷ [] =
    rw (take_more near k 0 l) (carried_push units near (take k near) (get_or near k 0)) in
    let front_total = sum_by-append (λ n. n) (carried_after units near [] (take k near)) (carried units near (take k near) (get_or near k 0) ∷ []) in
    let same : sum (carried_after units near [] near) ≡ sum (carried_after units near [] (take (k + 1) near)) + sum (carried_after units near (take (k + 1) near) (drop (k + 1) near)) =
    ap (λ l. sum (carried_after units near [] l)) (sym parts) ∙ ap (λ l. sum l) whole ∙ total in
    let same_front : sum (carried_after units near [] (take (k + 1) near)) ≡ sum (carried_after units near [] (take k near)) + sum (carried units near (take k near) (get_or near k 0) ∷ []) =
    ap (λ l. sum l) front_is ∙ front_total in
    omega (arith, same, same_front)

-- units by numbers

stands_push_case : (b c : Bool) → (b || c) ≡ true → (b ≡ true → ⊥) → c ≡ true
stands_push_case true c e f = absurd (f refl)
stands_push_case false c e f = e

pub find_at : (xs : List ℕ) (v : ℕ) → stands_in xs v ≡ true → (w : ℕ) × (w < length xs) × (get_or xs w 0 ≡ v)
find_at [] v e = absurd (let bad : false ≡ true = e in cc)
find_at (x ∷ xs) v e = find_case (nat_eq x v) x xs v refl e (find_at xs v)
  where
    find_case : (b : Bool) (x : ℕ) (xs : List ℕ) (v : ℕ) → nat_eq x v ≡ b → (b || stands_in xs v) ≡ true
        → (stands_in xs v ≡ true → (w : ℕ) × (w < length xs) × (get_or xs w 0 ≡ v)) → (w : ℕ) × (w < length (x ∷ xs)) × (get_or (x ∷ xs) w 0 ≡ v)
    find_case true x xs v e f go = (0, omega arith, grind (arith, nat_tests))
    find_case false x xs v e f go = let found = go f in (suc (found.0), (let lt = found.1 in omega (arith, lt)), found.2)

pub stands_vertices : (side : List ℕ) (v : ℕ) → stands_in (vertices side) v ≡ false → stands_in side v ≡ false
stands_vertices side v e = absent (stands_in side v) refl
  where
    zero_of : (xs : List ℕ) (v : ℕ) → stands_in xs v ≡ false → count_of xs v ≡ 0
    zero_of [] v e = refl
    zero_of (x ∷ xs) v e = zero_case (nat_eq x v) xs v (count_of (x ∷ xs) v) (count_cons x xs v) e (zero_of xs v)
      where
        zero_case : (b : Bool) (xs : List ℕ) (v n : ℕ) → n ≡ bit b + count_of xs v → (b || stands_in xs v) ≡ false → (stands_in xs v ≡ false → count_of xs v ≡ 0) → n ≡ 0
        zero_case true xs v n f e go = absurd (let bad : true ≡ false = e in cc)
        zero_case false xs v n f e go = let none = go e in omega (arith, f, none)

    absent : (b : Bool) → stands_in side v ≡ b → b ≡ false
    absent false f = refl
    absent true f =
        let none = zero_of (vertices side) v e in
        let one = vertices_once side v ∙ ap bit f in
        absurd (omega (arith, none, one))

pub units_none : (names units : List ℕ) (v : ℕ) → stands_in names v ≡ false → units_in names units v ≡ 0
unfolding units_in
units_none [] units v e = refl
units_none (n ∷ names) [] v e = refl
units_none (n ∷ names) (x ∷ units) v e = none_case (nat_eq n v) names v x (units_in names units v) e (units_none names units v)
  where
    none_case : (b : Bool) (names : List ℕ) (v x rest : ℕ) → (b || stands_in names v) ≡ false → (stands_in names v ≡ false → rest ≡ 0) → cond b x rest ≡ 0
    none_case true names v x rest e f = absurd (let bad : true ≡ false = e in cc)
    none_case false names v x rest e f = f e

pub head_absent : (n : ℕ) (names : List ℕ) → Distinct (n ∷ names) → stands_in names n ≡ false
head_absent n names d = absent (stands_in names n) refl
  where
    absent : (b : Bool) → stands_in names n ≡ b → b ≡ false
    absent false f = refl
    absent true f =
        let more = count_stands names n f in
        let one = count_cons n names n in
        let two : bit (nat_eq n n) ≡ 1 = rw (eqb_self n) refl in
        let three = d n in
        absurd (omega (arith, more, one, two, three))

pub rest_distinct : (n : ℕ) (names : List ℕ) → Distinct (n ∷ names) → Distinct names
rest_distinct n names d v = let one = count_cons n names v in let two = d v in omega (arith, one, two)

pub units_at : (names units : List ℕ) (u : ℕ) → Distinct names → length units ≡ length names → u < length names
    → units_in names units (get_or names u 0) ≡ get_or units u 0
unfolding units_in
units_at [] units u d l m = absurd (omega arith)
units_at (n ∷ names) [] u d l m = absurd (omega arith)
units_at (n ∷ names) (x ∷ units) zero d l m = rw (eqb_self n) refl
units_at (n ∷ names) (x ∷ units) (suc u) d l m =
    let far : nat_eq n (get_or names u 0) ≡ false = other (nat_eq n (get_or names u 0)) refl in
    rw far (units_at names units u (rest_distinct n names d) (omega arith) (omega arith))
  where
    other : (b : Bool) → nat_eq n (get_or names u 0) ≡ b → b ≡ false
    other false e = refl
    other true e =
        let same : n ≡ get_or names u 0 = grind (arith, nat_tests) in
        let one = head_absent n names d in
        let two : u < length names = omega arith in
        absurd (let bad : true ≡ false = sym (there names u n two (sym same)) ∙ one in cc)
      where
        there : (xs : List ℕ) (k v : ℕ) → k < length xs → get_or xs k 0 ≡ v → stands_in xs v ≡ true
        there xs k v l e = stands_at xs k v l e

pub or_no : (a b : Bool) → (a || b) ≡ false → (a ≡ false) × (b ≡ false)
or_no true b e = absurd (let bad : true ≡ false = e in cc)
or_no false b e = (refl, e)

units_skip : (n x : ℕ) (names units : List ℕ) (v : ℕ) → nat_eq v n ≡ false → units_in (n ∷ names) (x ∷ units) v ≡ units_in names units v
unfolding units_in
units_skip n x names units v e = rw (eqb_sym n v ∙ e) refl

rest_sum : (n x : ℕ) (names units vs : List ℕ) → stands_in vs n ≡ false
    → sum_by (units_in (n ∷ names) (x ∷ units)) vs ≡ sum_by (units_in names units) vs
rest_sum n x names units [] e = refl
rest_sum n x names units (v ∷ vs) e =
    let parts = or_no (nat_eq v n) (stands_in vs n) e in
    let one = sum_by-cons (units_in (n ∷ names) (x ∷ units)) v vs in
    let two = sum_by-cons (units_in names units) v vs in
    let three = units_skip n x names units v parts.0 in
    let four = rest_sum n x names units vs parts.1 in
    omega (arith, one, two, three, four)

pub units_sum : (names units : List ℕ) → Distinct names → length units ≡ length names → sum_by (units_in names units) names ≡ sum units
units_sum [] [] d l = refl
units_sum [] (x ∷ units) d l = absurd (omega arith)
units_sum (n ∷ names) [] d l = absurd (omega arith)
units_sum (n ∷ names) (x ∷ units) d l =
    let one = sum_by-cons (units_in (n ∷ names) (x ∷ units)) n names in
    let two = units_at (n ∷ names) (x ∷ units) zero d l (omega arith) in
    let three = rest_sum n x names units names (head_absent n names d) in
    let four = units_sum names units (rest_distinct n names d) (omega arith) in
    let five = sum_by-cons (λ y. y) x units in
    omega (arith, one, two, three, four, five)

-- after k edges: what is left of each remainder, and what has arrived
pub record Stepped (near far near_names far_names : List ℕ) (units : ℕ → ℕ) (k : ℕ) (more out : List ℕ) : Type 0 where
  pub more_len : length more ≡ length near_names
  pub out_len : length out ≡ length far_names
  pub more_is : (u : ℕ) → u < length near_names
      → get_or more u 0 ≡ units (get_or near_names u 0) % count_of near (get_or near_names u 0) - count_of (take k near) (get_or near_names u 0)
  pub out_is : (w : ℕ) → w < length far_names
      → get_or out w 0 ≡ arrived (take k far) (carried_after units near [] (take k near)) (get_or far_names w 0)

minus_bit : (r c n : ℕ) → r - c - n ≡ r - (c + n)
minus_bit r c n = omega arith

part_is : (q r c m : ℕ) → m ≡ r - c → q + min m 1 ≡ q + bit (nat_lt c r)
part_is q r c m e = grind (arith, nat_tests)

length_front : (k : ℕ) (near far : List ℕ) (units : ℕ → ℕ) → length near ≡ length far
    → length (take k far) ≡ length (carried_after units near [] (take k near))
length_front k near far units l =
    let one = length-take k far in
    let two = length-take k near in
    let three = length_carried units near [] (take k near) in
    omega (arith, one, two, three, l)

-- what the edge with this number carries
pub part_of : (near far near_names far_names : List ℕ) (units : ℕ → ℕ) (k : ℕ) (more out : List ℕ) (p q : ℕ)
    → Stepped near far near_names far_names units k more out → p < length near_names → get_or near_names p 0 ≡ get_or near k 0
    → q ≡ units (get_or near_names p 0) / count_of near (get_or near_names p 0)
    → q + min (get_or more p 0) 1 ≡ carried units near (take k near) (get_or near k 0)
part_of near far near_names far_names units k more out p q s l e f =
    let one = s.more_is p l in
    rw (← e, f)
    (part_is (units (get_or near_names p 0) / count_of near (get_or near_names p 0))
    (units (get_or near_names p 0) % count_of near (get_or near_names p 0)) (count_of (take k near) (get_or near_names p 0)) (get_or more p 0) one)

pub stepped_more : (near far near_names far_names : List ℕ) (units : ℕ → ℕ) (k : ℕ) (more out : List ℕ) (p w : ℕ) (part : ℕ)
    → Stepped near far near_names far_names units k more out → Distinct near_names → Distinct far_names → k < length near → length near ≡ length far
    → p < length near_names → get_or near_names p 0 ≡ get_or near k 0 → w < length far_names → get_or far_names w 0 ≡ get_or far k 0
    → part ≡ carried units near (take k near) (get_or near k 0)
    → Stepped near far near_names far_names units (k + 1) (set more p (get_or more p 0 - 1)) (set out w (get_or out w 0 + part))
stepped_more near far near_names far_names units k more out p w part s dn df l same lp ep lw ew e = record {
  more_len = length-set more p (get_or more p 0 - 1) ∙ s.more_len;
  out_len = length-set out w (get_or out w 0 + part) ∙ s.out_len;
  more_is = λ u m.
      taken_at more p u (rw (s.more_len) lp) ∙ ap (λ x. x - bit (nat_eq p u)) (s.more_is u m)
      ∙ minus_bit (units (get_or near_names u 0) % count_of near (get_or near_names u 0)) (count_of (take k near) (get_or near_names u 0)) (bit (nat_eq p u))
      ∙ ap (λ x. units (get_or near_names u 0) % count_of near (get_or near_names u 0) - x) (sym (front u m));
  out_is = λ v m.
      added_at out w v part (rw (s.out_len) lw) ∙ ap (λ x. x + cond (nat_eq w v) part 0) (s.out_is v m) ∙ sym (arrives v m);
}
  where
    front : (u : ℕ) → u < length near_names
        → count_of (take (k + 1) near) (get_or near_names u 0) ≡ count_of (take k near) (get_or near_names u 0) + bit (nat_eq p u)
    front u m = rw (take_more near k 0 l) (count_more near_names (take k near) p u (get_or near k 0) dn lp m ep)

    arrives : (v : ℕ) → v < length far_names
        → arrived (take (k + 1) far) (carried_after units near [] (take (k + 1) near)) (get_or far_names v 0)
        ≡ arrived (take k far) (carried_after units near [] (take k near)) (get_or far_names v 0) + cond (nat_eq w v) part 0
    arrives v m =
        let inside : k < length far = omega arith in
        rw (take_more near k 0 l, take_more far k 0 inside, carried_push units near (take k near) (get_or near k 0), ← e)
        (arrived_push (take k far) (carried_after units near [] (take k near)) (get_or far k 0) part (get_or far_names v 0) (length_front k near far units same)
        ∙ ap (λ b. arrived (take k far) (carried_after units near [] (take k near)) (get_or far_names v 0) + cond b part 0)
        (ap (λ x. nat_eq x (get_or far_names v 0)) (sym ew) ∙ told_bit far_names w v df lw m))

pub stepped_none : (near far near_names far_names : List ℕ) (units : ℕ → ℕ) (more out : List ℕ) → length more ≡ length near_names → length out ≡ length far_names
    → ((u : ℕ) → u < length near_names → get_or more u 0 ≡ units (get_or near_names u 0) % count_of near (get_or near_names u 0))
    → ((w : ℕ) → get_or out w 0 ≡ 0) → Stepped near far near_names far_names units 0 more out
unfolding arrived
stepped_none near far near_names far_names units more out l m e z = record {
  more_len = l;
  out_len = m;
  more_is = λ u h. let one = e u h in let two : units (get_or near_names u 0) % count_of near (get_or near_names u 0) - 0
      ≡ units (get_or near_names u 0) % count_of near (get_or near_names u 0) = omega arith in one ∙ sym two;
  out_is = λ w h. z w;
}

-- a sum stays within the bound
pub fits_next : (near far near_names far_names : List ℕ) (units : ℕ → ℕ) (k : ℕ) (more out : List ℕ) (w part : ℕ)
    → Stepped near far near_names far_names units k more out → k < length near → w < length far_names
    → part ≡ carried units near (take k near) (get_or near k 0)
    → get_or out w 0 + part ≤ sum (carried_after units near [] near)
fits_next near far near_names far_names units k more out w part s l m e =
    let one = s.out_is w m in
    let two = arrived_le (take k far) (carried_after units near [] (take k near)) (get_or far_names w 0) in
    let three = next_within units near k l in
    omega (arith, one, two, three, e)

pub whole_sum : (near : List ℕ) (names array : List ℕ) → names ≡ vertices near → length array ≡ length names
    → sum (carried_after (units_in names array) near [] near) ≡ sum array
whole_sum near names array e l =
    near_sum (units_in names array) near (vertices near) (vertices_cover near) (vertices_stand near)
    ∙ ap (λ vs. sum_by (units_in names array) vs) (sym e) ∙ units_sum names array (λ v. rw e (vertices_distinct near v)) l

-- all edges have been passed
pub stepped_all : (near far near_names far_names : List ℕ) (units : ℕ → ℕ) (k : ℕ) (more out : List ℕ)
    → Stepped near far near_names far_names units k more out → length near ≤ k → length near ≡ length far → far_names ≡ vertices far
    → units_in far_names out ≡ half_step near far units
unfolding half_step
stepped_all near far near_names far_names units k more out s l same e =
    let all_near = take_whole k near l in
    let all_far : take k far ≡ far = take_whole k far (omega arith) in
    fun_ext (λ v. at_vertex (stands_in far_names v) v refl all_near all_far)
  where
    at_vertex : (b : Bool) (v : ℕ) → stands_in far_names v ≡ b → take k near ≡ near → take k far ≡ far
        → units_in far_names out v ≡ arrived far (carried_after units near [] near) v
    at_vertex true v f g h =
        let found = find_at far_names v f in
        let here = found.2 in
        let one = units_at far_names out found.0 (λ u. rw e (vertices_distinct far u)) s.out_len found.1 in
        let two = s.out_is found.0 found.1 in
        rw (← here) (one ∙ two ∙ (rw (g, h) refl))
    at_vertex false v f g h =
        units_none far_names out v f ∙ sym (arrived_none far (carried_after units near [] near) v (stands_vertices far v (rw (← e) f)))

pub kept_sum : (near far near_names far_names array out : List ℕ) → near_names ≡ vertices near → far_names ≡ vertices far
    → length array ≡ length near_names → length out ≡ length far_names → length near ≡ length far
    → units_in far_names out ≡ half_step near far (units_in near_names array) → sum out ≡ sum array
kept_sum near far near_names far_names array out e f l m same g =
    sym (units_sum far_names out (λ v. rw f (vertices_distinct far v)) m) ∙ ap (λ h. sum_by h far_names) g
    ∙ ap (λ vs. sum_by (half_step near far (units_in near_names array)) vs) f ∙ step_sum near far (units_in near_names array) same
    ∙ ap (λ vs. sum_by (units_in near_names array) vs) (sym e) ∙ units_sum near_names array (λ v. rw e (vertices_distinct near v)) l

every_at : (P : ℕ → Type 0) (xs : List ℕ) (u : ℕ) → Every P xs → u < length xs → P (get_or xs u 0)
every_at P [] u h l = absurd (omega arith)
every_at P (x ∷ xs) zero h l = h.0
every_at P (x ∷ xs) (suc u) h l = every_at P xs u h.1 (omega arith)

-- each vertex has an edge
pub degree_above : (side names degrees : List ℕ) (u : ℕ) → names ≡ vertices side → AreDegrees side names degrees → u < length names → 0 < get_or degrees u 0
degree_above side names degrees u e d l =
    let stands = every_at (λ v. stands_in side v ≡ true) (vertices side) u (vertices_stand side) (rw (← e) l) in
    let one = count_stands side (get_or (vertices side) u 0) stands in
    let two = d.counted u l in
    let three : count_of side (get_or names u 0) ≡ count_of side (get_or (vertices side) u 0) = ap (λ vs. count_of side (get_or vs u 0)) e in
    omega (arith, one, two, three)

pub more_named : (side names degrees units more : List ℕ) → names ≡ vertices side → AreDegrees side names degrees → length units ≡ length names
    → ((u : ℕ) → u < length units → get_or more u 0 ≡ get_or units u 0 % get_or degrees u 0) → (u : ℕ) → u < length names
    → get_or more u 0 ≡ units_in names units (get_or names u 0) % count_of side (get_or names u 0)
more_named side names degrees units more e d l f u m =
    let one = f u (rw l m) in
    let two = units_at names units u (λ v. rw e (vertices_distinct side v)) l m in
    let three = d.counted u m in
    one ∙ rw (two, ← three) refl

pub part_named : (side names degrees units parts : List ℕ) → names ≡ vertices side → AreDegrees side names degrees → length units ≡ length names
    → ((u : ℕ) → u < length units → get_or parts u 0 ≡ get_or units u 0 / get_or degrees u 0) → (u : ℕ) → u < length names
    → get_or parts u 0 ≡ units_in names units (get_or names u 0) / count_of side (get_or names u 0)
part_named side names degrees units parts e d l f u m =
    let one = f u (rw l m) in
    let two = units_at names units u (λ v. rw e (vertices_distinct side v)) l m in
    let three = d.counted u m in
    one ∙ rw (two, ← three) refl

pub next_part : (near far names far_names degrees places units parts more out : List ℕ) (k part : ℕ)
    → names ≡ vertices near → AreDegrees near names degrees → ArePlaced near names places → length units ≡ length names
    → ((u : ℕ) → u < length units → get_or parts u 0 ≡ get_or units u 0 / get_or degrees u 0)
    → Stepped near far names far_names (units_in names units) k more out → k < length near
    → part ≡ get_or parts (get_or places k 0) 0 + min (get_or more (get_or places k 0) 0) 1
    → part ≡ carried (units_in names units) near (take k near) (get_or near k 0)
next_part near far names far_names degrees places units parts more out k part e d p l f s inside is =
    is ∙ part_of near far names far_names (units_in names units) k more out (get_or places k 0) (get_or parts (get_or places k 0) 0) s
    (p.in_range k inside) (p.named k inside) (part_named near names degrees units parts e d l f (get_or places k 0) (p.in_range k inside))
