-- A random walk between the users and the posts of a window. After full SALSA (GraphJet, PVLDB 9(13), 2016). Own: one
-- word a step, the order of the draws, and the return to a seed by the word that took the user.
use Rattle.std.specs.Prelude.{ℕ, Bool, true, false, List, [], ◌∷◌, length, slice_index, Option, Some, None}
use Rattle.gj_base.specs.declared.item.Item.{Item}
use Rattle.gj_base.specs.declared.side.Side.TheVariants as side
use Rattle.gj_base.specs.Asks.{WalkQuery}
use Rattle.gj_base.specs.Ends.{ends}
use Rattle.gj_base.specs.Draw.{pick_of, resets_at, end_picked}
use Rattle.gj_base.specs.Tally.{tally}
use Rattle.gj_walk.specs.declared.state.State.{State}
use Rattle.gj_walk.specs.declared.state.State.TheVariants.{Seed, User, Post}

-- a step from a user, whose eligible posts the word picks among: the post is visited; where there is none, a seed is next
abbrev pub from_user : Option ℕ → Option ℕ × State
from_user None = (None, Seed)
from_user (Some post) = (Some post, Post post)

-- a step from a post, whose users the word picks among: the user is next, and a seed where the word resets
abbrev pub from_post : Option ℕ → Bool → Option ℕ × State
from_post None resets = (None, Seed)
from_post (Some user) true = (None, Seed)
from_post (Some user) false = (None, User user)

-- one step: the post that it visits, where it visits one, and the next state
unfoldable pub step_of : List Item → WalkQuery → ℕ → State → Option ℕ × State
step_of items query word Seed = (None, User (slice_index query.seeds (pick_of word (length query.seeds))))
step_of items query word (User user) = from_user (end_picked (ends items side.User user query.mask) word)
step_of items query word (Post post) = from_post (end_picked (ends items side.Post post query.mask) word) (resets_at word query.reset)

-- the visit, where there is one, before the others
abbrev pub visit_first : Option ℕ → List ℕ → List ℕ
visit_first None posts = posts
visit_first (Some post) posts = post ∷ posts

-- the posts that are visited from a state, one step a word
unfoldable pub walked : List Item → WalkQuery → List ℕ → State → List ℕ
walked items query [] state = []
walked items query (word ∷ words) state =
    visit_first (step_of items query word state).0 (walked items query words (step_of items query word state).1)

-- how often a walk by these words visits each post
abbrev pub visits_of : List Item → WalkQuery → List ℕ → List (ℕ × ℕ)
visits_of items query words = tally (walked items query words Seed)
