-- What a message that asks for something that there is gets, in a run alone in which the store did not fail.
use Rattle.std.specs.Prelude.{◌≡◌, ◌+◌, ◌^◌, ◌≤◌, length, Result, Ok, Err}
use Rattle.gj_base.specs.Asks.{NotedBatch}
use Rattle.gj_base.specs.Configuration.{Configuration}
use Rattle.gj_base.specs.History.{end_of, length_of}
use Rattle.gj_base.specs.declared.ask.Ask.{Ask}
use Rattle.gj_base.specs.declared.ask.Ask.TheVariants as asks
use Rattle.gj_base.specs.declared.ask.Query.{Query}
use Rattle.gj_base.specs.declared.ask.Query.TheVariants as queries
use Rattle.gj_base.specs.declared.history.Shown.{Shown}
use Rattle.gj_http.specs.Request.{Request}
use Rattle.gj_once.specs.Judging.{judged}
use Rattle.gj_once.specs.declared.verdict.Verdict.{Verdict}
use Rattle.gj_once.specs.declared.verdict.Verdict.TheVariants.{Fresh, Repeat, Old, Skipped}
use Rattle.gj_reply.specs.Statuses.{status_of}
use Rattle.gj_reply.specs.declared.fixed.Fixed.TheVariants as fixed
use Rattle.gj_reply.specs.declared.reply.Reply.{Reply}
use Rattle.gj_reply.specs.declared.status.Status.TheVariants as statuses
use Rattle.gj_session.specs.Answers.{window_under}
use Rattle.gj_session.specs.Heard.{heard}
use Rattle.gj_session.specs.Marks.{Mark}
use Rattle.gj_session.specs.Reference.{since_of}
use Rattle.gj_session.specs.declared.outcome.Outcome.{Outcome}
use Rattle.gj_session.specs.declared.outcome.Outcome.TheVariants.{Says, Stands}

-- the window has the place that a page is to begin at, or ends there
abbrev pub HasPlace : Query → Shown → Type 0
HasPlace (queries.Log from) w = (w.first ≤ from) × (from ≤ end_of w)
HasPlace _ w = Unit {0}

-- the next batch of its producer has room, or it is the last one again
abbrev pub IsDue : Verdict → Mark → NotedBatch → Type 0
IsDue Fresh a batch = length_of a.seen + length batch.items ≤ 2 ^ 48
IsDue (Repeat receipt) a batch = Unit {0}
IsDue (Old last) a batch = ⊥
IsDue (Skipped last) a batch = ⊥

-- what is asked for is there: a length that is not ahead of the history and a place of the window, room for the batch, or a
-- numbered batch that is due
abbrev pub IsWithin : Configuration → Mark → Result Ask Reply → Type 0
IsWithin conf a (Ok (asks.Query query)) =
    (since_of query ≤ end_of (window_under conf a.seen)) × HasPlace query (window_under conf a.seen)
IsWithin conf a (Ok (asks.Items batch)) = length_of a.seen + length batch ≤ 2 ^ 48
IsWithin conf a (Ok (asks.Noted batch)) = IsDue (judged a.noted batch.producer batch.number) a batch
IsWithin conf a (Err reply) = ⊥

-- the answer has the status 200, or is a fixed reply of want of memory
abbrev pub IsWhole : Outcome → Type 0
IsWhole (Says reply) = status_of reply ≡ statuses.Ok
IsWhole (Stands fixed.NoLook) = ⊥
IsWhole (Stands _) = Unit {0}

-- a message that asks for something that there is gets such an answer
abbrev pub AnswersWhole : Configuration → Mark → Request → Outcome → Type 0
AnswersWhole conf a message outcome = IsWithin conf a (heard message) → IsWhole outcome
