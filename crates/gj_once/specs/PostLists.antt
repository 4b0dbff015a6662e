-- What lists of posts bring into a history, and which of them take each numbered batch once.
use Rattle.std.specs.Prelude.{◌≡◌, ℕ, ◌+◌, ◌-◌, ◌^◌, ◌<◌, ◌≤◌, List, [], ◌∷◌, ◌++◌, length, slice_get, slice_range, Option, Some, None, Result, Ok, Err}
use Rattle.gj_base.specs.Asks.{NotedBatch, IsNotedBatch}
use Rattle.gj_base.specs.History.{items_of}
use Rattle.gj_base.specs.declared.history.History.{History}
use Rattle.gj_base.specs.declared.index.IndexError.TheVariants as errors
use Rattle.gj_base.specs.declared.item.Item.{Item}
use Rattle.gj_base.specs.declared.item.Receipt.{Receipt}
use Rattle.gj_once.specs.declared.noted_index.Noted.{Noted}
use Rattle.gj_once.specs.declared.noted_index.Noted.TheVariants.{New, Repeated}
use Rattle.gj_once.specs.declared.noted_index.OnceError.{OnceError}
use Rattle.gj_once.specs.declared.noted_index.OnceError.TheVariants as refused
use Rattle.gj_once.specs.declared.posting.Call.{Call}
use Rattle.gj_once.specs.declared.posting.Call.TheVariants as asked
use Rattle.gj_once.specs.declared.verdict.LastBatch.{LastBatch}
use Rattle.gj_once.specs.Judging.{judged, noting}
use Rattle.gj_once.specs.NotedPosts.{Answers, IfNew, IsPosted, faults_noted}

-- a batch that may be posted: a numbered one always may
abbrev pub IsCall : Call → Type 0
IsCall (asked.Plain items) = (0 < length items) × (length items ≤ 4096)
IsCall (asked.Noted batch) = Unit {0}

-- a call with what its answer tells: how the batch is in the history, or nothing
pub record Post : Type 0 where
  pub call : Call
  pub told : Option Noted

-- what an answer of an index tells
abbrev pub told_of : Result Noted OnceError → Option Noted
told_of (Ok noted) = Some noted
told_of (Err why) = None

-- the calls with what their answers tell
abbrev pub posts_of : List Call → List (Result Noted OnceError) → List Post
posts_of calls [] = []
posts_of [] (answer ∷ answers) = []
posts_of (call ∷ calls) (answer ∷ answers) = record { call = call; told = told_of answer } ∷ posts_of calls answers

-- the items of a call
abbrev pub items_in : Call → List Item
items_in (asked.Plain items) = items
items_in (asked.Noted batch) = batch.items

-- the items that a call brings into the history, by what its answer tells
abbrev pub entering : Call → Option Noted → List Item
entering call (Some (New receipt)) = items_in call
entering call (Some (Repeated receipt)) = []
entering call None = []

-- those of all posts, in their order
abbrev pub entered : List Post → List Item
entered [] = []
entered (post ∷ posts) = entering post.call post.told ++ entered posts

-- what is noted after the call, by what its answer tells
abbrev pub noted_by : List LastBatch → Call → Option Noted → List LastBatch
noted_by lasts (asked.Plain items) told = lasts
noted_by lasts (asked.Noted batch) (Some (New receipt)) = noting lasts batch.producer batch.number receipt
noted_by lasts (asked.Noted batch) (Some (Repeated receipt)) = lasts
noted_by lasts (asked.Noted batch) None = lasts

-- after all posts
abbrev pub noted_after : List LastBatch → List Post → List LastBatch
noted_after lasts [] = lasts
noted_after lasts (post ∷ posts) = noted_after (noted_by lasts post.call post.told) posts

-- the places after so many interactions that these ones take
abbrev pub Takes : ℕ → List Item → Receipt → Type 0
Takes before items receipt = (receipt.from ≡ before) × (receipt.to ≡ before + length items)

-- a full history is told with its length, and only where these items would pass the last place
abbrev pub FullWhere : ℕ → List Item → Result Noted OnceError → Type 0
FullWhere before items (Ok noted) = Unit {0}
FullWhere before items (Err (refused.Index errors.Memory)) = Unit {0}
FullWhere before items (Err (refused.Index errors.Store)) = Unit {0}
FullWhere before items (Err (refused.Index (errors.Full n))) = (n ≡ before) × (2 ^ 48 < before + length items)
FullWhere before items (Err (refused.Old last)) = Unit {0}
FullWhere before items (Err (refused.Skipped last)) = Unit {0}

-- the answer is one to the call, where this is noted and the history has this length
abbrev pub IsAnswer : List LastBatch → ℕ → Call → Result Noted OnceError → Type 0
IsAnswer lasts before (asked.Plain items) answer = IsPosted answer × IfNew answer (Takes before items) × FullWhere before items answer
IsAnswer lasts before (asked.Noted batch) answer =
    IsNotedBatch batch × Answers (judged lasts batch.producer batch.number) answer × IfNew answer (Takes before batch.items)
    × FullWhere before batch.items answer

-- each answer is one to its call, where the earlier posts are noted
abbrev pub AreAnswers : List LastBatch → ℕ → List Call → List (Result Noted OnceError) → Type 0
AreAnswers lasts before calls [] = Unit {0}
AreAnswers lasts before [] (answer ∷ answers) = Unit {0}
AreAnswers lasts before (call ∷ calls) (answer ∷ answers) =
    IsAnswer lasts before call answer
    × AreAnswers (noted_by lasts call (told_of answer)) (before + length (entering call (told_of answer))) calls answers

-- the count of an index after the answers: one more at each by a fault of its store
abbrev pub faults_answered : ℕ → List (Result Noted OnceError) → ℕ
faults_answered count [] = count
faults_answered count (answer ∷ answers) = faults_answered (faults_noted count answer) answers

-- the items stand in the history at these places
pub record Holds (h : History) (receipt : Receipt) (items : List Item) : Type 0 where
  pub from : h.first ≤ receipt.from
  pub to : receipt.to ≡ receipt.from + length items
  pub there : slice_range (items_of h.entries) (receipt.from - h.first) (receipt.to - h.first) ≡ items

-- the post at this index brought the items of its call into the history, at these places
abbrev pub EntersAt : List Post → ℕ → Call → Receipt → Type 0
EntersAt posts i call receipt = slice_get posts i ≡ Some (record { call = call; told = Some (New receipt) })

-- the post at this index was told that the batch had entered before, at these places
abbrev pub RepeatsAt : List Post → ℕ → NotedBatch → Receipt → Type 0
RepeatsAt posts i batch receipt = slice_get posts i ≡ Some (record { call = asked.Noted batch; told = Some (Repeated receipt) })

-- an earlier post brought a batch of the producer with this number into the history, at these places
pub record EnteredBefore (posts : List Post) (i producer number : ℕ) (receipt : Receipt) : Type 0 where
  pub index : ℕ
  pub batch : NotedBatch
  pub earlier : index < i
  pub enters : EntersAt posts index (asked.Noted batch) receipt
  pub producer_is : batch.producer ≡ producer
  pub number_is : batch.number ≡ number

-- the posts take each numbered batch once: of each producer and number at most one entered, a repeated one has the places
-- of the one that entered, and the history holds at its places what entered
pub record OnceOnly (posts : List Post) (h : History) : Type 0 where
  pub one : (i j : ℕ) (a b : NotedBatch) (q r : Receipt) → EntersAt posts i (asked.Noted a) q → EntersAt posts j (asked.Noted b) r → a.producer ≡ b.producer → a.number ≡ b.number → i ≡ j
  pub repeated : (i : ℕ) (b : NotedBatch) (r : Receipt) → RepeatsAt posts i b r → EnteredBefore posts i b.producer b.number r
  pub held : (i : ℕ) (call : Call) (r : Receipt) → EntersAt posts i call r → Holds h r (items_in call)
