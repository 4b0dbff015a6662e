-- The units of all posts together.
use Rattle.std.proofs.Common.{◌≡◌, ℕ, zero, suc, ◌+◌, ◌-◌, ◌*◌, ◌<◌, ◌≤◌, ◌∙◌, true, false, nat_eq, List, [], ◌∷◌, length, fold, sum_by, refl, ap, sym, arith, ⊎_elim}
use Rattle.std.proofs.lemmas.Bool.{cond-true, cond-false, eq-eqb, ne_eqb, cases_lt}
use Rattle.std.proofs.lemmas.List.Sums.{sum_by-cons}
use Rattle.gj_base.specs.declared.item.Item.{Item}
use Rattle.gj_base.specs.Asks.{SubQuery}
use Rattle.gj_base.specs.Tally.{is_tally, sum_of, number_at, with_number}
use Rattle.gj_base.proofs.TallyLemmas.{sum_of-with_number, is_tally-with_number, number_at-with_number}
use Rattle.gj_base.specs.Edges.{stands_in, edges_of}
use Rattle.gj_subgraph.specs.Masses.{users_of, posts_of, vertices, half_step, spread, starting, with_mass, masses_of}
use Rattle.gj_subgraph.proofs.CountLemmas.{Every, eqb_sym}
use Rattle.gj_subgraph.proofs.NumberLemmas.{Distinct, vertices_distinct}
use Rattle.gj_subgraph.proofs.StepLemmas.{head_absent, rest_distinct, or_no}
use Rattle.gj_subgraph.proofs.LawLemmas.{step_sum, total_law, total_same}
use Rattle.gj_subgraph.proofs.MassLemmas.{spread_one, spread_none, few_users, same_edges}

-- a post that is not among these keeps the number of each of them
others_none : (pairs : List (ℕ × ℕ)) (v n : ℕ) (vs : List ℕ) → stands_in vs v ≡ false → Every (λ w. number_at pairs w ≡ 0) vs
    → Every (λ w. number_at (with_number pairs v n) w ≡ 0) vs
others_none pairs v n [] absent none = tt
others_none pairs v n (w ∷ vs) absent none =
    let parts = or_no (nat_eq w v) (stands_in vs v) absent in
    (number_at-with_number pairs v n w ∙ (cond-false _ _ _ (eqb_sym v w ∙ parts.0) ∙ none.0), others_none pairs v n vs parts.1 none.1)

-- the units of the pairs are those that were there and those of the vertices, each of which comes once
put_sum : (units : ℕ → ℕ) (pairs : List (ℕ × ℕ)) (vs : List ℕ) → is_tally pairs ≡ true → Distinct vs → Every (λ w. number_at pairs w ≡ 0) vs
    → sum_of (fold (with_mass units) pairs vs) ≡ sum_of pairs + sum_by units vs
put_sum units pairs [] is d none = omega arith
put_sum units pairs (v ∷ vs) is d none =
    let whole = sum_by-cons units v vs in
    ⊎_elim
    (λ (some : 0 < units v).
    let new = with_number pairs v (units v) in
    let next : with_mass units pairs v ≡ new = cond-false _ _ _ (ne_eqb (units v) 0 (λ e. omega arith)) in
    let rest = put_sum units new vs (is_tally-with_number pairs v (units v) some is) (rest_distinct v vs d) (others_none pairs v (units v) vs (head_absent v vs d) none.1) in
    let more = sum_of-with_number pairs v (units v) is in
    let was = none.0 in
    let same = ap (λ p. sum_of (fold (with_mass units) p vs)) next in
    omega (arith, whole, rest, more, was, same))
    (λ (no_units : units v ≤ 0).
    let next : with_mass units pairs v ≡ pairs = cond-true _ _ _ (eq-eqb (units v) 0 (omega arith)) in
    let rest = put_sum units pairs vs is (rest_distinct v vs d) none.1 in
    let same = ap (λ p. sum_of (fold (with_mass units) p vs)) next in
    omega (arith, whole, rest, same))
    (cases_lt 0 (units v))

nothing_there : (vs : List ℕ) → Every (λ w. number_at [] w ≡ 0) vs
nothing_there [] = tt
nothing_there (v ∷ vs) = (refl, nothing_there vs)

-- after an odd number of half steps the units are at the far side
spread_sum : (m : ℕ) (near far : List ℕ) (units : ℕ → ℕ) → length near ≡ length far
    → sum_by (spread (suc (2 * m)) near far units) (vertices far) ≡ sum_by units (vertices near)
spread_sum zero near far units l =
    ap (λ f. sum_by f (vertices far)) (spread_one (suc (2 * zero)) zero near far units refl ∙ spread_none zero far near (half_step near far units) refl) ∙ step_sum near far units l
spread_sum (suc m) near far units l =
    let back = half_step far near (half_step near far units) in
    let two : spread (suc (2 * suc m)) near far units ≡ spread (suc (2 * m)) near far back =
    spread_one (suc (2 * suc m)) (suc (suc (2 * m))) near far units (omega arith) ∙ spread_one (suc (suc (2 * m))) (suc (2 * m)) far near (half_step near far units) refl in
    ap (λ f. sum_by f (vertices far)) two ∙ spread_sum m near far back l ∙ step_sum far near (half_step near far units) (sym l) ∙ step_sum near far units l

-- all units that the seed users with an edge had stand at the posts
pub masses_sum : (items : List Item) (ask : SubQuery) → 1 ≤ ask.iterations
    → sum_of (masses_of items ask) ≡ 1048576 * length (vertices (users_of (edges_of items ask.seeds ask.mask)))
unfolding masses_of
masses_sum items ask some =
    let edges = edges_of items ask.seeds ask.mask in
    let users = users_of edges in
    let posts = posts_of edges in
    let units = spread (2 * ask.iterations - 1) users posts (starting users) in
    let odd : 2 * ask.iterations - 1 ≡ suc (2 * (ask.iterations - 1)) = omega arith in
    let l = same_edges items ask.seeds ask.mask in
    let put = put_sum units [] (vertices posts) refl (vertices_distinct posts) (nothing_there (vertices posts)) in
    let moved = ap (λ n. sum_by (spread n users posts (starting users)) (vertices posts)) odd ∙ spread_sum (ask.iterations - 1) users posts (starting users) l in
    let start = sym (total_same zero users posts (starting users) l) ∙ total_law zero users posts l in
    omega (arith, put, moved, start)

pub masses_within : (items : List Item) (ask : SubQuery) → 1 ≤ ask.iterations → length ask.seeds ≤ 1000 → sum_of (masses_of items ask) ≤ 1048576000
masses_within items ask some seeds =
    let whole = masses_sum items ask some in
    let few = few_users items ask.seeds ask.mask in
    omega (arith, whole, few, seeds)
