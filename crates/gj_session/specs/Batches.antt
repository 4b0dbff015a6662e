-- What a batch may be answered, and where this leaves a session.
use Rattle.std.specs.Prelude.{◌≡◌, ◌⊎◌, ℕ, ◌+◌, ◌^◌, ◌<◌, ◌≤◌, Bool, true, false, List, length}
use Rattle.gj_base.specs.History.{length_of, extend, entries_by, Begins}
use Rattle.gj_base.specs.declared.history.History.{History}
use Rattle.gj_base.specs.declared.item.Item.{Item}
use Rattle.gj_reply.specs.declared.fixed.Fixed.{Fixed}
use Rattle.gj_reply.specs.declared.fixed.Fixed.TheVariants as fixed
use Rattle.gj_reply.specs.declared.reply.Reply.{Reply}
use Rattle.gj_reply.specs.declared.reply.Reply.TheVariants.{Posted, Full, Store, Apart}
use Rattle.gj_session.specs.Marks.{Mark, Meets, Moves, entries_of}
use Rattle.gj_session.specs.declared.outcome.Outcome.{Outcome}
use Rattle.gj_session.specs.declared.outcome.Outcome.TheVariants.{Says, Stands}

-- the batch has entered, and may not be seen yet
abbrev pub Enters : Bool → ℕ → Mark → List Item → Mark → Type 0
Enters true seat a batch b = (b.seen ≡ extend a.seen (entries_by seat batch)) × (b.entered ≡ a.entered + length batch)
Enters false seat a batch b = Begins a.seen b.seen × (b.entered ≡ a.entered + length batch)

-- a batch was posted after the history met: from and length are told, and all that entered through the seat is seen
pub record PostedAfter (alone : Bool) (seat : ℕ) (a : Mark) (batch : List Item) (from length_now : ℕ) (b : Mark) : Type 0 where
  pub met : History
  pub meets : Meets alone a.seen met
  pub seen : b.seen ≡ extend met (entries_by seat batch)
  pub from_is : from ≡ length_of met
  pub length_is : length_now ≡ length_of b.seen
  pub in_range : length_now ≤ 2 ^ 48
  pub entered : b.entered ≡ a.entered + length batch
  pub once : entries_of seat b.seen ≡ b.entered

-- the length of the history met, as far as the seat knows it
abbrev pub HasLength : Bool → History → ℕ → Type 0
HasLength true h n = n ≡ length_of h
HasLength false h n = Unit {0}

-- a history of length n has no room for the batch
pub record NoRoomFor (alone : Bool) (a : Mark) (batch : List Item) (n : ℕ) (b : Mark) : Type 0 where
  pub same : b ≡ a
  pub at : HasLength alone a.seen n
  pub in_range : n ≤ 2 ^ 48
  pub over : 2 ^ 48 < n + length batch

-- the seat and the writer do not agree: the seat saw more than was shown, or they count differently
pub record IsApart (a b : Mark) (seen shown posted counted : ℕ) : Type 0 where
  pub moves : Moves false a b
  pub at : seen ≡ length_of b.seen
  pub own : posted ≡ b.entered
  pub differ : (shown < seen) ⊎ (posted ≡ counted → ⊥)

-- a batch got this reply; alone none is apart
abbrev pub SaysOfBatch : Bool → ℕ → Mark → List Item → Reply → Mark → Type 0
SaysOfBatch alone seat a batch (Posted from length) b = PostedAfter alone seat a batch from length b
SaysOfBatch alone seat a batch (Full n) b = NoRoomFor alone a batch n b
SaysOfBatch alone seat a batch Store b = Moves alone a b
SaysOfBatch false seat a batch (Apart seen shown posted counted) b = IsApart a b seen shown posted counted
SaysOfBatch alone seat a batch _ b = ⊥

-- the fixed reply to a look that was refused: alone none is made
abbrev pub IsNoLook : Bool → Outcome → Type 0
IsNoLook true outcome = ⊥
IsNoLook false outcome = outcome ≡ Stands fixed.NoLook

-- a batch got this fixed reply: `Accepted` where it has entered, that of a refused look, or the lack's
abbrev pub FixedOfBatch : Bool → ℕ → Mark → List Item → Fixed → Fixed → Mark → Type 0
FixedOfBatch alone seat a batch lack fixed.Accepted b = Enters alone seat a batch b
FixedOfBatch alone seat a batch lack fixed.NoLook b = IsNoLook alone (Stands fixed.NoLook) × (b ≡ a)
FixedOfBatch alone seat a batch lack which b = (which ≡ lack) × Moves alone a b

-- what is answered to a batch
abbrev pub AnswersBatch : Bool → ℕ → Mark → List Item → Fixed → Outcome → Mark → Type 0
AnswersBatch alone seat a batch lack (Says reply) b = SaysOfBatch alone seat a batch reply b
AnswersBatch alone seat a batch lack (Stands which) b = FixedOfBatch alone seat a batch lack which b
