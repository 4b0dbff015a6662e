-- Posts that share users with a post, by random walks of two steps. Own: one word a step, and no co-visit of the post itself.
use Rattle.std.specs.Prelude.{ℕ, ◌<◌, ◌≤◌, ◌==◌, if◌then◌else◌, List, [], ◌∷◌, length, take, map, fold, All, Option, Some, None}
use Rattle.std.specs.BTreeSet.{insert_key}
use Rattle.gj_base.specs.declared.item.Item.{Item}
use Rattle.gj_base.specs.declared.side.Side.TheVariants as side
use Rattle.gj_base.specs.Filter.{Filter}
use Rattle.gj_base.specs.Asks.{SimQuery}
use Rattle.gj_base.specs.Ends.{ends}
use Rattle.gj_base.specs.Draw.{end_picked}
use Rattle.gj_base.specs.Tally.{tally}
use Rattle.gj_similar.specs.declared.state.State.{State}
use Rattle.gj_similar.specs.declared.state.State.TheVariants.{Post, User}
use Rattle.gj_similar.specs.Scored.{Scored, score_cmp}

-- a step from the post, whose users the word picks among; where there is none, it stays
abbrev pub from_post : Option ℕ → State
from_post None = Post
from_post (Some user) = User user

-- the post that the word picks is shared, where it is another one
abbrev pub shared_post : ℕ → Option ℕ → Option ℕ
shared_post post None = None
shared_post post (Some other) = if other == post then None else Some other

-- one step: the post that it shares, where it shares one, and the next state
unfoldable pub step_of : List Item → SimQuery → ℕ → State → Option ℕ × State
step_of items query word Post = (None, from_post (end_picked (ends items side.Post query.post query.mask) word))
step_of items query word (User user) = (shared_post query.post (end_picked (ends items side.User user query.mask) word), Post)

-- the shared post, where there is one, before the others
abbrev pub shared_first : Option ℕ → List ℕ → List ℕ
shared_first None posts = posts
shared_first (Some post) posts = post ∷ posts

-- the posts that are shared from a state, one step a word
unfoldable pub co_visited : List Item → SimQuery → List ℕ → State → List ℕ
co_visited items query [] state = []
co_visited items query (word ∷ words) state =
    shared_first (step_of items query word state).0 (co_visited items query words (step_of items query word state).1)

-- how often each other post is shared by these words
abbrev pub shared_of : List Item → SimQuery → List ℕ → List (ℕ × ℕ)
shared_of items query words = tally (co_visited items query words Post)

-- the score of a post with a number of co-visits
abbrev pub score_at : List Item → Filter → ℕ × ℕ → Scored
score_at items mask pair = record { co = pair.1; degree = length (ends items side.Post pair.0 mask); post = pair.0 }

-- each post has an eligible interaction, and at most so many co-visits as half the steps
abbrev pub AreScorable : List Item → Filter → List (ℕ × ℕ) → Type 0
AreScorable items mask pairs = All (λ pair. (pair.1 ≤ 50000) × (0 < length (ends items side.Post pair.0 mask))) pairs

-- the scores, the best first
abbrev pub in_order : List Scored → List Scored
in_order scores = fold (insert_key score_cmp) [] scores

-- the first scores of posts with numbers of co-visits
unfoldable pub best_scores : List Item → Filter → ℕ → List (ℕ × ℕ) → List Scored
best_scores items mask top pairs = take top (in_order (map (score_at items mask) pairs))

-- the first scores by these words
abbrev pub scored_of : List Item → SimQuery → List ℕ → List Scored
scored_of items query words = best_scores items query.mask query.top (shared_of items query words)
