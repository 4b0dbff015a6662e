-- What a numbered batch may be answered, by what its number says, and what is noted then.
use Rattle.std.specs.Prelude.{◌≡◌, ◌⊎◌, ℕ, ◌+◌, ◌≤◌, Bool, true, false, List, length}
use Rattle.gj_base.specs.Asks.{NotedBatch}
use Rattle.gj_base.specs.History.{length_of}
use Rattle.gj_base.specs.declared.history.History.{History}
use Rattle.gj_base.specs.declared.item.Item.{Item}
use Rattle.gj_base.specs.declared.item.Receipt.{Receipt}
use Rattle.gj_once.specs.Judging.{judged, noting}
use Rattle.gj_once.specs.declared.verdict.LastBatch.{LastBatch}
use Rattle.gj_once.specs.declared.verdict.Verdict.{Verdict}
use Rattle.gj_once.specs.declared.verdict.Verdict.TheVariants as verdict
use Rattle.gj_reply.specs.declared.fixed.Fixed.TheVariants as fixed
use Rattle.gj_reply.specs.declared.reply.Reply.TheVariants as replies
use Rattle.gj_session.specs.Batches.{IsApart, IsNoLook, AnswersBatch}
use Rattle.gj_session.specs.Marks.{Mark, Moves}
use Rattle.gj_session.specs.declared.outcome.Outcome.{Outcome}
use Rattle.gj_session.specs.declared.outcome.Outcome.TheVariants.{Says, Stands}

-- the batch had entered before, at these places: from and length are told, all of it is seen, and nothing enters now
pub record RepeatedAfter (alone : Bool) (a : Mark) (receipt : Receipt) (from length_then : ℕ) (b : Mark) : Type 0 where
  pub moves : Moves alone a b
  pub from_is : from ≡ receipt.from
  pub length_is : length_then ≡ receipt.to
  pub seen : length_then ≤ length_of b.seen

-- what is answered to a batch that had entered at these places; alone none is apart, and no look is refused
abbrev pub AnswersRepeat : Bool → Mark → Receipt → Outcome → Mark → Type 0
AnswersRepeat alone a receipt (Says (replies.Repeated from length)) b = RepeatedAfter alone a receipt from length b
AnswersRepeat false a receipt (Says (replies.Apart seen shown posted counted)) b = IsApart a b seen shown posted counted
AnswersRepeat alone a receipt (Stands fixed.NoLook) b = IsNoLook alone (Stands fixed.NoLook) × (b ≡ a)
AnswersRepeat alone a receipt _ b = ⊥

-- what is answered by what the number says: only a fresh batch enters
abbrev pub AnswersJudged : Bool → ℕ → Mark → List Item → Verdict → Outcome → Mark → Type 0
AnswersJudged alone seat a batch verdict.Fresh outcome b = AnswersBatch alone seat a batch fixed.NotAccepted outcome b
AnswersJudged alone seat a batch (verdict.Repeat receipt) outcome b = AnswersRepeat alone a receipt outcome b
AnswersJudged alone seat a batch (verdict.Old last) outcome b = (outcome ≡ Says (replies.Old last)) × Moves alone a b
AnswersJudged alone seat a batch (verdict.Skipped last) outcome b = (outcome ≡ Says (replies.Skipped last)) × Moves alone a b

-- no memory was found, and nothing has entered
abbrev pub Lacks : Bool → Mark → Outcome → Mark → Type 0
Lacks alone a outcome b = ((outcome ≡ Stands fixed.Memory) ⊎ (outcome ≡ Stands fixed.NotAccepted)) × Moves alone a b

-- what an index answers to a number that is not its producer's next: no memory is wanting for it
abbrev pub AnswersStale : Verdict → Outcome → Type 0
AnswersStale verdict.Fresh outcome = Unit {0}
AnswersStale (verdict.Repeat receipt) outcome = outcome ≡ Says (replies.Repeated receipt.from receipt.to)
AnswersStale (verdict.Old last) outcome = outcome ≡ Says (replies.Old last)
AnswersStale (verdict.Skipped last) outcome = outcome ≡ Says (replies.Skipped last)

-- the same of a seat: a batch that had entered is not called unaccepted
abbrev pub AnswersKnown : Verdict → Outcome → Type 0
AnswersKnown verdict.Fresh outcome = Unit {0}
AnswersKnown (verdict.Repeat receipt) outcome = outcome ≡ Stands fixed.NotAccepted → ⊥
AnswersKnown (verdict.Old last) outcome = outcome ≡ Says (replies.Old last)
AnswersKnown (verdict.Skipped last) outcome = outcome ≡ Says (replies.Skipped last)

-- what is answered where this is noted last
abbrev pub AnswersWhere : List LastBatch → Bool → ℕ → Mark → NotedBatch → Outcome → Mark → Type 0
AnswersWhere noted alone seat a batch outcome b =
    Lacks alone a outcome b ⊎ AnswersJudged alone seat a batch.items (judged noted batch.producer batch.number) outcome b

-- what is answered to a numbered batch: alone where what the mark says is noted, and beside other seats where some list is
abbrev pub AnswersNoted : Bool → ℕ → Mark → NotedBatch → Outcome → Mark → Type 0
AnswersNoted true seat a batch outcome b = AnswersWhere a.noted true seat a batch outcome b
AnswersNoted false seat a batch outcome b = (noted : List LastBatch) × AnswersWhere noted false seat a batch outcome b

-- the places that items take after a history
abbrev pub places_after : History → List Item → Receipt
places_after h items = record { from = length_of h; to = length_of h + length items }

-- what is noted after the answer, where this was noted and the history was this one: a batch that has entered
abbrev pub noted_after : List LastBatch → History → NotedBatch → Outcome → List LastBatch
noted_after noted h batch (Says (replies.Posted from length)) = noting noted batch.producer batch.number (places_after h batch.items)
noted_after noted h batch (Stands fixed.Accepted) = noting noted batch.producer batch.number (places_after h batch.items)
noted_after noted h batch _ = noted

-- alone the mark says so
abbrev pub Notes : Bool → Mark → NotedBatch → Outcome → Mark → Type 0
Notes true a batch outcome b = b.noted ≡ noted_after a.noted a.seen batch outcome
Notes false a batch outcome b = b.noted ≡ a.noted
