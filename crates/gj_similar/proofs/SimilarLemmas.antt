-- A similarity query, step by step.
use Rattle.std.proofs.Common.{◌≡◌, ℕ, ◌+◌, ◌*◌, ◌<◌, ◌≤◌, ◌==◌, ◌∙◌, cond, List, [], ◌∷◌, ◌++◌, length, get_or, count_by, All, Option, None, Some, IfSome, Result, Ok, Err, IfOk, suc, subst, refl, sym, ap, append_assoc, arith, ⊎_elim}
use Rattle.std.proofs.lemmas.Bool.{cases_eq, ne_eqb, cond-false}
use Rattle.std.proofs.lemmas.List.Elements.{All-cons}
use Rattle.std.proofs.lemmas.List.Sums.{sum_by-cons, count_by-le-length}
use Rattle.gj_base.specs.declared.item.Item.{Item}
use Rattle.gj_base.specs.declared.side.Side.TheVariants as side
use Rattle.gj_base.specs.Draw.{end_picked}
use Rattle.gj_base.specs.Ends.{ends}
use Rattle.gj_base.specs.Filter.{Filter}
use Rattle.gj_base.specs.Tally.{number_at, tally}
use Rattle.gj_base.proofs.TallyLemmas.{is_tally-tally, number_at-tally, number_at-pair, All-positive}
use Rattle.gj_base.specs.Asks.{SimQuery}
use Rattle.gj_similar.specs.declared.state.State.{State}
use Rattle.gj_similar.specs.declared.state.State.TheVariants.{Post, User}
use Rattle.gj_similar.specs.Similar.{step_of, from_post, shared_post, shared_first, co_visited, AreScorable}

-- a shared post put at the end of posts, before the others
append-shared_first : (posts : List ℕ) (shared : Option ℕ) (others : List ℕ) → (posts ++ shared_first shared []) ++ others ≡ posts ++ shared_first shared others
append-shared_first posts None others = append_assoc posts [] others
append-shared_first posts (Some post) others = append_assoc posts (post ∷ []) others

pub co_visited_none : (items : List Item) (query : SimQuery) (state : State) → co_visited items query [] state ≡ []
unfolding co_visited
co_visited_none items query state = refl

-- one step moves what it shares to the end of the posts so far
pub co_visited_one : (items : List Item) (query : SimQuery) (word : ℕ) (words : List ℕ) (state : State) (posts : List ℕ) (shared : Option ℕ) (next : State)
    → (shared, next) ≡ step_of items query word state
    → (posts ++ shared_first shared []) ++ co_visited items query words next ≡ posts ++ co_visited items query (word ∷ words) state
unfolding co_visited
co_visited_one items query word words state posts shared next is =
    append-shared_first posts shared (co_visited items query words next)
    ∙ ap (λ (step : Option ℕ × State). posts ++ shared_first step.0 (co_visited items query words step.1)) is

pub All-shared_first : (P : ℕ → Type 0) (shared : Option ℕ) → IfSome shared P → All P (shared_first shared [])
All-shared_first P None holds = λ k d lt. absurd (omega arith)
All-shared_first P (Some post) holds = All-cons P post [] holds (λ k d lt. absurd (omega arith))

length-shared_first : (shared : Option ℕ) (posts : List ℕ) → length (shared_first shared posts) ≤ length posts + 1
length-shared_first None posts = omega arith
length-shared_first (Some post) posts = omega arith

from_either : (items : List Item) (query : SimQuery) (words : List ℕ)
    → (2 * length (co_visited items query words Post) ≤ length words) × ((user : ℕ) → 2 * length (co_visited items query words (User user)) ≤ length words + 1)
    → (state : State) → 2 * length (co_visited items query words state) ≤ length words + 1
from_either items query words both Post = let post = both.0 in omega arith
from_either items query words both (User user) = both.1 user

-- two steps share one post at most: from the post, and from a user
length-both : (items : List Item) (query : SimQuery) (words : List ℕ)
    → (2 * length (co_visited items query words Post) ≤ length words) × ((user : ℕ) → 2 * length (co_visited items query words (User user)) ≤ length words + 1)
unfolding co_visited step_of
length-both items query [] = (omega arith, λ user. omega arith)
length-both items query (word ∷ words) =
    let rest = length-both items query words in
    let from : (state : State) → 2 * length (co_visited items query words state) ≤ length words + 1 = λ state. from_either items query words rest state in
    let first : 2 * length (co_visited items query words (from_post (end_picked (ends items side.Post query.post query.mask) word))) ≤ length words + 1 =
    from (from_post (end_picked (ends items side.Post query.post query.mask) word)) in
    let after : 2 * length (co_visited items query words Post) ≤ length words = rest.0 in (
      omega arith,
      λ user.
          let shared : Option ℕ = shared_post query.post (end_picked (ends items side.User user query.mask) word) in
          let one : length (shared_first shared (co_visited items query words Post)) ≤ length (co_visited items query words Post) + 1 = length-shared_first shared (co_visited items query words Post) in
          omega arith,
    )

pub length-co_visited : (items : List Item) (query : SimQuery) (words : List ℕ) → 2 * length (co_visited items query words Post) ≤ length words
length-co_visited items query words = (length-both items query words).0

-- what holds of each element holds of one that is counted
All-counted : (P : ℕ → Type 0) (posts : List ℕ) (post : ℕ) → All P posts → 0 < count_by (λ x. x == post) posts → P post
All-counted P [] post all some = absurd (omega arith)
All-counted P (x ∷ xs) post all some =
    let count : count_by (λ y. y == post) (x ∷ xs) ≡ cond {A = ℕ} (x == post) 1 0 + count_by (λ y. y == post) xs = sum_by-cons (λ y. cond (y == post) 1 0) x xs in
    ⊎_elim
    (λ (is : x ≡ post). subst P is (all 0 x (omega arith)))
    (λ (apart : x ≡ post → ⊥).
    let none : cond {A = ℕ} (x == post) 1 0 ≡ 0 = cond-false (x == post) 1 0 (ne_eqb x post apart) in
    All-counted P xs post (λ k d lt. all (suc k) d (omega arith)) (omega arith))
    (cases_eq x post)

-- a tally of few posts that have ends may be scored
pub scorable : {E : Type 0} (items : List Item) (mask : Filter) (posts : List ℕ) (result : Result (List (ℕ × ℕ)) E)
    → length posts ≤ 50000 → All (λ post. 0 < length (ends items side.Post post mask)) posts
    → IfOk result (λ shared. shared ≡ tally posts) → IfOk result (AreScorable items mask)
scorable items mask posts (Err e) few back is = tt
scorable items mask posts (Ok shared) few back is =
    let Holds : List (ℕ × ℕ) → Type 0 = AreScorable items mask in
    subst Holds (sym is) (λ k d lt.
    let pair : ℕ × ℕ = get_or (tally posts) k d in
    let number : number_at (tally posts) pair.0 ≡ pair.1 = number_at-pair (tally posts) (is_tally-tally posts) k d lt in
    let count : number_at (tally posts) pair.0 ≡ count_by (λ x. x == pair.0) posts = number_at-tally posts pair.0 in
    let most : count_by (λ x. x == pair.0) posts ≤ length posts = count_by-le-length (λ x. x == pair.0) posts in
    let some : 0 < pair.1 = All-positive (tally posts) (is_tally-tally posts) k d lt in
    (omega arith, All-counted (λ post. 0 < length (ends items side.Post post mask)) posts pair.0 back (omega arith)))
