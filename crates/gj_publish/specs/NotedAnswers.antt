-- What the post of a numbered batch answers.
use Rattle.std.specs.Prelude.{◌≡◌, ℕ, List, Result, Ok, Err}
use Rattle.gj_base.specs.Asks.{NotedBatch}
use Rattle.gj_base.specs.declared.item.Receipt.{Receipt}
use Rattle.gj_once.specs.declared.noted_index.Noted.{Noted}
use Rattle.gj_once.specs.declared.noted_index.Noted.TheVariants.{New, Repeated}
use Rattle.gj_once.specs.declared.verdict.LastBatch.{LastBatch}
use Rattle.gj_once.specs.declared.verdict.Verdict.{Verdict}
use Rattle.gj_once.specs.declared.verdict.Verdict.TheVariants as verdict
use Rattle.gj_once.specs.Judging.{noting}
use Rattle.gj_publish.specs.declared.refusal.NotedError.{NotedError}
use Rattle.gj_publish.specs.declared.refusal.NotedError.TheVariants as refused
use Rattle.gj_publish.specs.declared.refusal.PostError.{PostError}
use Rattle.gj_publish.specs.declared.refusal.PostError.TheVariants as why
use Rattle.gj_publish.specs.Answers.{IfMet, IsUnmet, after_error, faults_told}
use Rattle.gj_publish.specs.Seats.{Numbers, after_verdict, looked}

-- P of the places, if the batch entered the history at this call and is shown
abbrev pub IfNew : Result Noted NotedError → (Receipt → Type 0) → Type 0
IfNew (Ok (New receipt)) P = P receipt
IfNew (Ok (Repeated receipt)) P = Unit {0}
IfNew (Err error) P = Unit {0}

-- P, if it entered at this call and is shown
abbrev pub OnNew : Result Noted NotedError → Type 0 → Type 0
OnNew result P = IfNew result (λ _. P)

-- P of the places, if it had entered before and is shown
abbrev pub IfRepeated : Result Noted NotedError → (Receipt → Type 0) → Type 0
IfRepeated (Ok (New receipt)) P = Unit {0}
IfRepeated (Ok (Repeated receipt)) P = P receipt
IfRepeated (Err error) P = Unit {0}

-- it entered, or was refused as any batch
abbrev pub IsPosted : Result Noted NotedError → Type 0
IsPosted (Ok (New receipt)) = Unit {0}
IsPosted (Ok (Repeated receipt)) = ⊥
IsPosted (Err (refused.Post error)) = Unit {0}
IsPosted (Err (refused.RepeatUnseen receipt)) = ⊥
IsPosted (Err (refused.Old last)) = ⊥
IsPosted (Err (refused.Skipped last)) = ⊥

-- it had entered at these places, unless the look was refused, or seat and writer do not fit
abbrev pub IsRepeat : Receipt → Result Noted NotedError → Type 0
IsRepeat places (Ok (New receipt)) = ⊥
IsRepeat places (Ok (Repeated receipt)) = receipt ≡ places
IsRepeat places (Err (refused.Post error)) = IsUnmet error
IsRepeat places (Err (refused.RepeatUnseen receipt)) = receipt ≡ places
IsRepeat places (Err (refused.Old last)) = ⊥
IsRepeat places (Err (refused.Skipped last)) = ⊥

-- the answer is one to this verdict
abbrev pub Answers : Verdict → Result Noted NotedError → Type 0
Answers verdict.Fresh result = IsPosted result
Answers (verdict.Repeat receipt) result = IsRepeat receipt result
Answers (verdict.Old last) result = result ≡ Err (refused.Old last)
Answers (verdict.Skipped last) result = result ≡ Err (refused.Skipped last)

-- P of the places, if a batch that was posted with this answer entered the history: also if it is not yet shown
abbrev pub IfEntered : Result Receipt PostError → (Receipt → Type 0) → Type 0
IfEntered (Ok receipt) P = P receipt
IfEntered (Err why.Memory) P = Unit {0}
IfEntered (Err (why.KeptUnseen receipt)) P = P receipt
IfEntered (Err why.Store) P = Unit {0}
IfEntered (Err (why.Full length)) P = Unit {0}
IfEntered (Err (why.NoLook error)) P = Unit {0}
IfEntered (Err (why.Apart seen shown posted counted)) P = Unit {0}

-- what is noted after a fresh batch was refused so: one that is kept and not yet shown has entered
abbrev pub noted_refused : List LastBatch → ℕ → ℕ → PostError → List LastBatch
noted_refused lasts producer number why.Memory = lasts
noted_refused lasts producer number (why.KeptUnseen receipt) = noting lasts producer number receipt
noted_refused lasts producer number why.Store = lasts
noted_refused lasts producer number (why.Full length) = lasts
noted_refused lasts producer number (why.NoLook error) = lasts
noted_refused lasts producer number (why.Apart seen shown posted counted) = lasts

-- after it was posted with this answer
abbrev pub noted_posted : List LastBatch → ℕ → ℕ → Result Receipt PostError → List LastBatch
noted_posted lasts producer number (Ok receipt) = noting lasts producer number receipt
noted_posted lasts producer number (Err error) = noted_refused lasts producer number error

-- what is noted after the answer
abbrev pub noted_by : List LastBatch → NotedBatch → Result Noted NotedError → List LastBatch
noted_by lasts batch (Ok (New receipt)) = noting lasts batch.producer batch.number receipt
noted_by lasts batch (Ok (Repeated receipt)) = lasts
noted_by lasts batch (Err (refused.Post error)) = noted_refused lasts batch.producer batch.number error
noted_by lasts batch (Err (refused.RepeatUnseen receipt)) = lasts
noted_by lasts batch (Err (refused.Old last)) = lasts
noted_by lasts batch (Err (refused.Skipped last)) = lasts

-- where the call went on after its look, P holds
abbrev pub OnNotedMet : Result Noted NotedError → Type 0 → Type 0
OnNotedMet (Ok noted) P = P
OnNotedMet (Err (refused.Post error)) P = IfMet error P
OnNotedMet (Err (refused.RepeatUnseen receipt)) P = P
OnNotedMet (Err (refused.Old last)) P = Unit {0}
OnNotedMet (Err (refused.Skipped last)) P = Unit {0}

-- after an answer to a batch that is judged
abbrev pub after_answer : Result Noted NotedError → Numbers → Numbers
after_answer (Ok noted) numbers = looked numbers
after_answer (Err (refused.Post error)) numbers = after_error error numbers
after_answer (Err (refused.RepeatUnseen receipt)) numbers = looked numbers
after_answer (Err (refused.Old last)) numbers = numbers
after_answer (Err (refused.Skipped last)) numbers = numbers

-- a noted post raises the number of its verdict, and those that a post raises where it looks or is refused
abbrev pub after_noted : Verdict → Result Noted NotedError → Numbers → Numbers
after_noted verdict result numbers = after_answer result (after_verdict verdict numbers)

-- the count of the keeper's faults after the answer
abbrev pub faults_noted : ℕ → Result Noted NotedError → ℕ
faults_noted count (Ok noted) = count
faults_noted count (Err (refused.Post error)) = faults_told count error
faults_noted count (Err (refused.RepeatUnseen receipt)) = count
faults_noted count (Err (refused.Old last)) = count
faults_noted count (Err (refused.Skipped last)) = count
