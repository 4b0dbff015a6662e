-- What lists of calls on one writer bring into its history, and what is answered to them.
use Rattle.std.specs.Prelude.{◌≡◌, ℕ, ◌+◌, ◌^◌, ◌<◌, List, [], ◌∷◌, ◌++◌, map, length, slice_index_or, Option, Some, None, Result, Ok, Err}
use Rattle.gj_base.specs.Asks.{IsNotedBatch}
use Rattle.gj_base.specs.History.{entries_by}
use Rattle.gj_base.specs.declared.item.Entry.{Entry}
use Rattle.gj_base.specs.declared.item.Item.{Item}
use Rattle.gj_base.specs.declared.item.Receipt.{Receipt}
use Rattle.gj_once.specs.declared.noted_index.Noted.{Noted}
use Rattle.gj_once.specs.declared.noted_index.Noted.TheVariants.{New, Repeated}
use Rattle.gj_once.specs.declared.posting.Call.{Call}
use Rattle.gj_once.specs.declared.posting.Call.TheVariants as asked
use Rattle.gj_once.specs.declared.verdict.LastBatch.{LastBatch}
use Rattle.gj_once.specs.Judging.{judged}
use Rattle.gj_once.specs.PostLists.{IsCall, Post, Takes, entering, noted_by}
use Rattle.gj_publish.specs.declared.refusal.NotedError.{NotedError}
use Rattle.gj_publish.specs.declared.refusal.NotedError.TheVariants as refused
use Rattle.gj_publish.specs.declared.refusal.PostError.{PostError}
use Rattle.gj_publish.specs.declared.refusal.PostError.TheVariants as why
use Rattle.gj_publish.specs.declared.writer.lists.SeatCall.{SeatCall}
use Rattle.gj_publish.specs.NotedAnswers.{Answers, IsPosted, faults_noted}
use Rattle.gj_publish.specs.Seats.{SeatView}

-- a call that may be made by one of so many seats
abbrev pub IsSeatCall : ℕ → SeatCall → Type 0
IsSeatCall seats made = (made.seat < seats) × IsCall made.call

-- what a refusal of a post tells: a batch that is kept and not yet shown has entered the history
abbrev pub told_in : PostError → Option Noted
told_in why.Memory = None
told_in (why.KeptUnseen receipt) = Some (New receipt)
told_in why.Store = None
told_in (why.Full length) = None
told_in (why.NoLook error) = None
told_in (why.Apart seen shown posted counted) = None

-- what an answer tells: how the batch is in the history, or nothing
abbrev pub told_of : Result Noted NotedError → Option Noted
told_of (Ok noted) = Some noted
told_of (Err (refused.Post error)) = told_in error
told_of (Err (refused.RepeatUnseen receipt)) = Some (Repeated receipt)
told_of (Err (refused.Old last)) = None
told_of (Err (refused.Skipped last)) = None

-- the calls with what their answers tell
abbrev pub posts_of : List SeatCall → List (Result Noted NotedError) → List Post
posts_of calls [] = []
posts_of [] (answer ∷ answers) = []
posts_of (made ∷ calls) (answer ∷ answers) = record { call = made.call; told = told_of answer } ∷ posts_of calls answers

-- the numbers of the seats
abbrev pub numbers_of : List SeatView → List ℕ
numbers_of seats = map (λ seat. seat.number) seats

-- the entries that a call brings into the history by its answer; they are by the seat that makes it
abbrev pub entries_in : List ℕ → SeatCall → Result Noted NotedError → List Entry
entries_in numbers made answer = entries_by (slice_index_or numbers made.seat 0) (entering made.call (told_of answer))

-- those of all calls, in their order
abbrev pub entered : List ℕ → List SeatCall → List (Result Noted NotedError) → List Entry
entered numbers calls [] = []
entered numbers [] (answer ∷ answers) = []
entered numbers (made ∷ calls) (answer ∷ answers) = entries_in numbers made answer ++ entered numbers calls answers

-- P of the places, if the batch is told to have entered at this call
abbrev pub IfEntering : Option Noted → (Receipt → Type 0) → Type 0
IfEntering (Some (New receipt)) P = P receipt
IfEntering (Some (Repeated receipt)) P = Unit {0}
IfEntering None P = Unit {0}

-- a full history is told with its length, and only where these items would pass the last place
abbrev pub FullOf : ℕ → List Item → PostError → Type 0
FullOf before items why.Memory = Unit {0}
FullOf before items (why.KeptUnseen receipt) = Unit {0}
FullOf before items why.Store = Unit {0}
FullOf before items (why.Full n) = (n ≡ before) × (2 ^ 48 < before + length items)
FullOf before items (why.NoLook error) = Unit {0}
FullOf before items (why.Apart seen shown posted counted) = Unit {0}

abbrev pub FullWhere : ℕ → List Item → Result Noted NotedError → Type 0
FullWhere before items (Ok noted) = Unit {0}
FullWhere before items (Err (refused.Post error)) = FullOf before items error
FullWhere before items (Err (refused.RepeatUnseen receipt)) = Unit {0}
FullWhere before items (Err (refused.Old last)) = Unit {0}
FullWhere before items (Err (refused.Skipped last)) = Unit {0}

-- the answer is one to the call, where this is noted and the history has this length
abbrev pub IsAnswer : List LastBatch → ℕ → Call → Result Noted NotedError → Type 0
IsAnswer lasts before (asked.Plain items) answer =
    IsPosted answer × IfEntering (told_of answer) (Takes before items) × FullWhere before items answer
IsAnswer lasts before (asked.Noted batch) answer =
    IsNotedBatch batch × Answers (judged lasts batch.producer batch.number) answer × IfEntering (told_of answer) (Takes before batch.items)
    × FullWhere before batch.items answer

-- each answer is one to its call, where the earlier calls are noted
abbrev pub AreAnswers : List LastBatch → ℕ → List SeatCall → List (Result Noted NotedError) → Type 0
AreAnswers lasts before calls [] = Unit {0}
AreAnswers lasts before [] (answer ∷ answers) = Unit {0}
AreAnswers lasts before (made ∷ calls) (answer ∷ answers) =
    IsAnswer lasts before made.call answer
    × AreAnswers (noted_by lasts made.call (told_of answer)) (before + length (entering made.call (told_of answer))) calls answers

-- the count of the keeper's faults after the answers
abbrev pub faults_answered : ℕ → List (Result Noted NotedError) → ℕ
faults_answered count [] = count
faults_answered count (answer ∷ answers) = faults_answered (faults_noted count answer) answers
