-- Numberings of the same vertices, and what is the same over edges that lie in another order.
use Rattle.std.proofs.Common.{◌≡◌, ℕ, ◌+◌, ◌<◌, ◌≤◌, ◌∙◌, ◌++◌, ◌||◌, Bool, true, false, cond, nat_eq, List, [], ◌∷◌, length, fold, get_or, sum, sum_by, ap, sym, refl, arith}
use Rattle.std.proofs.lemmas.Bool.Decides.{nat_tests}
use mathlib.Core.Path.{fun_ext}
use Rattle.gj_base.specs.declared.item.Item.{Item}
use Rattle.gj_base.specs.declared.mask.Mask.{Mask}
use Rattle.gj_base.specs.Tally.{is_tally, number_at, with_number}
use Rattle.gj_base.proofs.TallyLemmas.{is_tally-with_number, number_at-with_number, same_pairs}
use Rattle.gj_base.specs.Edges.{stands_in, edges_of}
use Rattle.gj_subgraph.specs.Masses.{count_of, arrived, half_step, posts_of, spread, starting, users_of, vertices, with_mass}
use Rattle.gj_subgraph.specs.Numbers.{ArePlaced, units_in}
use Rattle.gj_subgraph.specs.Regrouped.{AreRelaid, HaveSameEdges}
use Rattle.gj_subgraph.proofs.CountLemmas.{Every, Covers, every_weaker, eqb_same, count_stands, stands_self, vertices_stand}
use Rattle.gj_subgraph.proofs.LawLemmas.{arrived_sum}
use Rattle.gj_subgraph.proofs.NumberLemmas.{Distinct, placed_push, stands_at, vertices_distinct, with_there}
use Rattle.gj_subgraph.proofs.MassLemmas.{few_from, spread_none, spread_one, users_stand, vertices_same}
use Rattle.gj_subgraph.proofs.StepLemmas.{arrived_none, find_at, head_absent, rest_distinct, units_at, units_none, units_sum}
use Rattle.gj_subgraph.proofs.RegroupLemmas.{half_step_same, same_count, same_far_count, uncounted}

-- members by counts

pub stands_counted : (xs ys : List ℕ) (v : ℕ) → count_of xs v ≡ count_of ys v → stands_in xs v ≡ stands_in ys v
stands_counted xs ys v e = both (stands_in xs v) (stands_in ys v) refl refl
  where
    both : (b c : Bool) → stands_in xs v ≡ b → stands_in ys v ≡ c → b ≡ c
    both true true f g = refl
    both false false f g = refl
    both true false f g = let some = count_stands xs v f in let none = uncounted ys v g in absurd (omega (arith, e, some, none))
    both false true f g = let none = uncounted xs v f in let some = count_stands ys v g in absurd (omega (arith, e, some, none))

-- the posts of both layouts are the same, and so are the users
pub same_posts : (users posts back_posts back_users : List ℕ) (v : ℕ) → AreRelaid users posts back_posts back_users → stands_in posts v ≡ stands_in back_posts v
same_posts users posts back_posts back_users v r =
    stands_counted posts back_posts v (same_far_count users posts r.near r.far v r.by_users ∙ sym (same_count back_posts back_users r.far r.near v r.by_posts))

pub same_users : (users posts back_posts back_users : List ℕ) (v : ℕ) → AreRelaid users posts back_posts back_users → stands_in users v ≡ stands_in back_users v
same_users users posts back_posts back_users v r =
    stands_counted users back_users v (same_count users posts r.near r.far v r.by_users ∙ sym (same_far_count back_posts back_users r.far r.near v r.by_posts))

-- one more vertex has its number
pub placed_next : (xs names places : List ℕ) (id n : ℕ) → ArePlaced xs names places → n < length names → get_or names n 0 ≡ id
    → ArePlaced (xs ++ id ∷ []) names (places ++ n ∷ [])
placed_next xs names places id n h l e =
    let there = with_there names id (stands_at names n id l e) in
    rw (← there) at (placed_push xs names places id n h (rw (← there) l) (rw (← there) e))

-- units by another numbering of the same vertices

pub renumber_units : (from units to places out : List ℕ) → Distinct from → Distinct to → ArePlaced to from places
    → length units ≡ length from → length out ≡ length to → ((k : ℕ) → k < length places → get_or out k 0 ≡ get_or units (get_or places k 0) 0)
    → ((v : ℕ) → stands_in from v ≡ stands_in to v) → units_in to out ≡ units_in from units
renumber_units from units to places out df dt placed l m is same = fun_ext (λ v. at_vertex v (stands_in to v) refl)
  where
    at_vertex : (v : ℕ) (b : Bool) → stands_in to v ≡ b → units_in to out v ≡ units_in from units v
    at_vertex v true e =
        let found = find_at to v e in
        let k = found.0 in
        let inside : k < length places = let one = placed.same_len in let two = found.1 in omega (arith, one, two) in
        let here = found.2 in
        let one = units_at to out k dt m found.1 in
        let two = units_at from units (get_or places k 0) df l (placed.in_range k found.1) in
        let three = placed.named k found.1 in
        rw (← here) (one ∙ is k inside ∙ sym two ∙ ap (units_in from units) three)
    at_vertex v false e = units_none to out v e ∙ sym (units_none from units v (same v ∙ e))

units_arrived : (names units : List ℕ) (v : ℕ) → Distinct names → length names ≡ length units → units_in names units v ≡ arrived names units v
unfolding units_in arrived
units_arrived [] units v d l = refl
units_arrived (n ∷ names) [] v d l = absurd (omega arith)
units_arrived (n ∷ names) (x ∷ units) v d l = arrived_case (nat_eq n v) refl (units_arrived names units v (rest_distinct n names d) (omega arith))
  where
    arrived_case : (b : Bool) → nat_eq n v ≡ b → units_in names units v ≡ arrived names units v → cond b x (units_in names units v) ≡ cond b x 0 + arrived names units v
    arrived_case true e f =
        let same : n ≡ v = eqb_same n v e in
        let none = arrived_none names units v (rw same at (head_absent n names d)) in
        omega (arith, none)
    arrived_case false e f = omega (arith, f)

once_each : (to : List ℕ) → Distinct to → (from : List ℕ) → Every (λ v. stands_in to v ≡ true) from → Covers to from
once_each to d from h =
    every_weaker (λ v. stands_in to v ≡ true) (λ v. count_of to v ≡ 1) (λ v e. let some = count_stands to v e in let one = d v in omega (arith, some, one)) from h

pub renumber_sum : (from units to places out : List ℕ) → Distinct from → Distinct to → ArePlaced to from places
    → length units ≡ length from → length out ≡ length to → ((k : ℕ) → k < length places → get_or out k 0 ≡ get_or units (get_or places k 0) 0)
    → ((v : ℕ) → stands_in from v ≡ stands_in to v) → sum out ≡ sum units
renumber_sum from units to places out df dt placed l m is same =
    sym (units_sum to out dt m) ∙ ap (λ f. sum_by f to) (renumber_units from units to places out df dt placed l m is same)
    ∙ ap (λ f. sum_by f to) (fun_ext (λ v. units_arrived from units v df (sym l)))
    ∙ arrived_sum from units to (sym l) (once_each to dt from (every_weaker (λ v. stands_in from v ≡ true) (λ v. stands_in to v ≡ true) (λ v e. sym (same v) ∙ e) from (stands_self from)))

-- masses over the same posts in another order

mass_at : (units : ℕ → ℕ) (vs : List ℕ) (pairs : List (ℕ × ℕ)) (b : Bool) (p : ℕ) → number_at pairs p ≡ cond b (units p) 0
    → number_at (fold (with_mass units) pairs vs) p ≡ cond (b || stands_in vs p) (units p) 0
mass_at units [] pairs true p e = e
mass_at units [] pairs false p e = e
mass_at units (v ∷ vs) pairs b p e =
    mass_at units vs (with_mass units pairs v) (b || nat_eq v p) p (put_case (nat_eq (units v) 0) refl)
    ∙ ap (λ c. cond c (units p) 0) (or_assoc b (nat_eq v p) (stands_in vs p))
  where
    or_assoc : (a b c : Bool) → ((a || b) || c) ≡ (a || (b || c))
    or_assoc true b c = refl
    or_assoc false b c = refl

    was_none : (b c : Bool) → nat_eq v p ≡ c → units v ≡ 0 → number_at pairs p ≡ cond b (units p) 0 → number_at pairs p ≡ cond (b || c) (units p) 0
    was_none true c f z e = e
    was_none false false f z e = e
    was_none false true f z e = e ∙ sym z ∙ ap units (eqb_same v p f)

    is_put : (b c : Bool) → nat_eq v p ≡ c → number_at pairs p ≡ cond b (units p) 0 → cond c (units v) (number_at pairs p) ≡ cond (b || c) (units p) 0
    is_put true true f e = ap units (eqb_same v p f)
    is_put true false f e = e
    is_put false true f e = ap units (eqb_same v p f)
    is_put false false f e = e

    put_case : (d : Bool) → nat_eq (units v) 0 ≡ d → number_at (cond d pairs (with_number pairs v (units v))) p ≡ cond (b || nat_eq v p) (units p) 0
    put_case true z = was_none b (nat_eq v p) refl (eqb_same (units v) 0 z) e
    put_case false z = number_at-with_number pairs v (units v) p ∙ is_put b (nat_eq v p) refl e

mass_tally : (units : ℕ → ℕ) (vs : List ℕ) (pairs : List (ℕ × ℕ)) → is_tally pairs ≡ true → is_tally (fold (with_mass units) pairs vs) ≡ true
mass_tally units [] pairs is = is
mass_tally units (v ∷ vs) pairs is = mass_tally units vs (with_mass units pairs v) (tally_case (units v) (nat_eq (units v) 0) refl)
  where
    tally_case : (n : ℕ) (b : Bool) → nat_eq n 0 ≡ b → is_tally (cond b pairs (with_number pairs v n)) ≡ true
    tally_case n true e = is
    tally_case n false e = is_tally-with_number pairs v n (grind (arith, nat_tests)) is

pub masses_same : (units : ℕ → ℕ) (vs ws : List ℕ) → ((v : ℕ) → stands_in vs v ≡ stands_in ws v) → fold (with_mass units) [] vs ≡ fold (with_mass units) [] ws
masses_same units vs ws same =
    same_pairs (fold (with_mass units) [] vs) (fold (with_mass units) [] ws) (mass_tally units vs [] refl) (mass_tally units ws [] refl)
    (λ p. mass_at units vs [] false p refl ∙ ap (λ b. cond b (units p) 0) (same p) ∙ sym (mass_at units ws [] false p refl))

-- numberings

pub names_distinct : (side names : List ℕ) → names ≡ vertices side → Distinct names
names_distinct side names e v = rw e (vertices_distinct side v)

pub names_same : (side names side' names' : List ℕ) → names ≡ vertices side → names' ≡ vertices side' → ((v : ℕ) → stands_in side v ≡ stands_in side' v)
    → (v : ℕ) → stands_in names v ≡ stands_in names' v
names_same side names side' names' e f same v = rw (e, f) (vertices_same side v ∙ same v ∙ sym (vertices_same side' v))

pub known_name : (names names' : List ℕ) → ((v : ℕ) → stands_in names v ≡ stands_in names' v) → (k : ℕ) → k < length names' → stands_in names (get_or names' k 0) ≡ true
known_name names names' same k l = same (get_or names' k 0) ∙ stands_at names' k (get_or names' k 0) l refl

pub placed_none : (names : List ℕ) → ArePlaced [] names []
placed_none names = record { same_len = refl; in_range = λ k l. absurd (omega arith); named = λ k l. absurd (omega arith) }

pub same_start : (users posts near far : List ℕ) → HaveSameEdges users posts near far → starting users ≡ starting near
same_start users posts near far same = fun_ext (λ v. ap (λ b. cond b 1048576 0) (stands_counted users near v (same_count users posts near far v same)))

-- the same units by another numbering of the same vertices
pub turned : (from_side from units to_side to places out : List ℕ) → from ≡ vertices from_side → to ≡ vertices to_side
    → ((v : ℕ) → stands_in from_side v ≡ stands_in to_side v) → ArePlaced to from places → length units ≡ length from → length out ≡ length places
    → ((k : ℕ) → k < length places → get_or out k 0 ≡ get_or units (get_or places k 0) 0) → (units_in to out ≡ units_in from units) × (sum out ≡ sum units)
turned from_side from units to_side to places out e f same placed l m is =
    let df = names_distinct from_side from e in
    let dt = names_distinct to_side to f in
    let members = names_same from_side from to_side to e f same in
    let long = m ∙ placed.same_len in
    (renumber_units from units to places out df dt placed l long is members, renumber_sum from units to places out df dt placed l long is members)

-- one half step over the same edges in another order
pub one_step : (n : ℕ) (users posts near far : List ℕ) → n ≡ 1 → HaveSameEdges users posts near far
    → spread 1 users posts (starting users) ≡ spread n near far (starting near)
one_step n users posts near far e same =
    spread_one 1 0 users posts (starting users) refl ∙ spread_none 0 posts users (half_step users posts (starting users)) refl
    ∙ half_step_same users posts near far (starting users) same ∙ ap (λ f. half_step near far f) (same_start users posts near far same)
    ∙ sym (spread_none 0 far near (half_step near far (starting near)) refl) ∙ sym (spread_one n 0 near far (starting near) e)

every_standing : (P : ℕ → Type 0) (xs : List ℕ) → Every P xs → (v : ℕ) → stands_in xs v ≡ true → P v
every_standing P [] h v e = absurd (let bad : false ≡ true = e in cc)
every_standing P (x ∷ xs) h v e = stand_case (nat_eq x v) refl e (every_standing P xs h.1 v)
  where
    stand_case : (b : Bool) → nat_eq x v ≡ b → (b || stands_in xs v) ≡ true → (stands_in xs v ≡ true → P v) → P v
    stand_case true f g go = rw (eqb_same x v f) at h.0
    stand_case false f g go = go g

-- there are no more users of the edges than seeds
pub few_listed : (items : List Item) (seeds : List ℕ) (mask : Mask) (near far : List ℕ)
    → HaveSameEdges near far (users_of (edges_of items seeds mask)) (posts_of (edges_of items seeds mask)) → length (vertices near) ≤ length seeds
few_listed items seeds mask near far same =
    let users = users_of (edges_of items seeds mask) in
    let posts = posts_of (edges_of items seeds mask) in
    few_from (vertices near) seeds (vertices_distinct near)
    (every_weaker (λ v. stands_in near v ≡ true) (λ v. stands_in seeds v ≡ true)
    (λ v e. every_standing (λ v. stands_in seeds v ≡ true) users (users_stand items seeds mask) v (sym (stands_counted near users v (same_count near far users posts v same)) ∙ e))
    (vertices near) (vertices_stand near))

pub same_vertices : (near far near' far' : List ℕ) → HaveSameEdges near far near' far' → (v : ℕ) → stands_in (vertices far) v ≡ stands_in (vertices far') v
same_vertices near far near' far' same v =
    vertices_same far v ∙ stands_counted far far' v (same_far_count near far near' far' v same) ∙ sym (vertices_same far' v)
