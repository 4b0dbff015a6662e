-- A walk, step by step.
use Rattle.std.proofs.Common.{◌≡◌, ℕ, ◌+◌, ◌≤◌, ◌∙◌, List, [], ◌∷◌, ◌++◌, length, Option, None, Some, Result, Ok, Err, IfOk, refl, ap, append_assoc, arith}
use Rattle.gj_base.specs.declared.item.Item.{Item}
use Rattle.gj_base.specs.Asks.{WalkQuery}
use Rattle.gj_base.specs.Tally.{sum_of, tally}
use Rattle.gj_base.proofs.TallyLemmas.{sum_of-tally}
use Rattle.gj_walk.specs.declared.state.State.{State}
use Rattle.gj_walk.specs.Walk.{step_of, visit_first, walked}

-- a visit put at the end of posts, before the others
append-visit_first : (posts : List ℕ) (visited : Option ℕ) (others : List ℕ) → (posts ++ visit_first visited []) ++ others ≡ posts ++ visit_first visited others
append-visit_first posts None others = append_assoc posts [] others
append-visit_first posts (Some post) others = append_assoc posts (post ∷ []) others

pub walked_none : (items : List Item) (query : WalkQuery) (state : State) → walked items query [] state ≡ []
unfolding walked
walked_none items query state = refl

-- one step moves its visit to the end of the posts so far
pub walked_one : (items : List Item) (query : WalkQuery) (word : ℕ) (words : List ℕ) (state : State) (posts : List ℕ) (visited : Option ℕ) (next : State)
    → (visited, next) ≡ step_of items query word state
    → (posts ++ visit_first visited []) ++ walked items query words next ≡ posts ++ walked items query (word ∷ words) state
unfolding walked
walked_one items query word words state posts visited next is =
    append-visit_first posts visited (walked items query words next)
    ∙ ap (λ (step : Option ℕ × State). posts ++ visit_first step.0 (walked items query words step.1)) is

length-visit_first : (visited : Option ℕ) (posts : List ℕ) → length (visit_first visited posts) ≤ length posts + 1
length-visit_first None posts = omega arith
length-visit_first (Some post) posts = omega arith

-- a step visits one post at most
pub length-walked : (items : List Item) (query : WalkQuery) (words : List ℕ) (state : State) → length (walked items query words state) ≤ length words
unfolding walked
length-walked items query [] state = omega arith
length-walked items query (word ∷ words) state =
    let step : Option ℕ × State = step_of items query word state in
    let one : length (visit_first step.0 (walked items query words step.1)) ≤ length (walked items query words step.1) + 1 = length-visit_first step.0 (walked items query words step.1) in
    let rest : length (walked items query words step.1) ≤ length words = length-walked items query words step.1 in
    omega arith

-- the numbers of a tally of few posts are few
pub tally_within : {E : Type 0} (posts : List ℕ) (most : ℕ) (result : Result (List (ℕ × ℕ)) E)
    → length posts ≤ most → IfOk result (λ visits. visits ≡ tally posts) → IfOk result (λ visits. sum_of visits ≤ most)
tally_within posts most (Ok visits) few is =
    let sum : sum_of visits ≡ length posts = ap sum_of is ∙ sum_of-tally posts in
    omega arith
tally_within posts most (Err e) few is = tt
