-- What a message may be answered, and where this leaves a session.
use Rattle.std.specs.Prelude.{◌≡◌, ◌⊎◌, ℕ, Bool, Result, Ok, Err}
use Rattle.gj_base.specs.Configuration.{Configuration}
use Rattle.gj_base.specs.History.{window}
use Rattle.gj_base.specs.declared.ask.Ask.{Ask}
use Rattle.gj_base.specs.declared.ask.Ask.TheVariants as asks
use Rattle.gj_base.specs.declared.ask.Query.{Query}
use Rattle.gj_base.specs.declared.history.History.{History}
use Rattle.gj_base.specs.declared.history.Shown.{Shown}
use Rattle.gj_http.specs.Request.{Request}
use Rattle.gj_reply.specs.declared.fixed.Fixed.{Fixed}
use Rattle.gj_reply.specs.declared.reply.Reply.{Reply}
use Rattle.gj_session.specs.Batches.{IsNoLook, AnswersBatch}
use Rattle.gj_session.specs.Heard.{heard, lack_of}
use Rattle.gj_session.specs.Marks.{Mark, Moves}
use Rattle.gj_session.specs.NotedBatches.{AnswersNoted, Notes}
use Rattle.gj_session.specs.Outcomes.{IsReply}
use Rattle.gj_session.specs.Reference.{reply_of}
use Rattle.gj_session.specs.declared.outcome.Outcome.{Outcome}

-- the window of a history under a configuration
abbrev pub window_under : Configuration → History → Shown
window_under conf h = window conf.capacity conf.segments h

-- what is answered to a query: the reference reply over what is seen then
abbrev pub AnswersQuery : Configuration → Bool → Mark → Query → Fixed → Outcome → Mark → Type 0
AnswersQuery conf alone a query lack outcome b =
    (Moves alone a b × IsReply (reply_of query (window_under conf b.seen)) lack outcome) ⊎ (IsNoLook alone outcome × (b ≡ a))

-- what is answered to an ask, or to a message that asks for nothing, and what is noted then
abbrev pub AnswersAsk : Configuration → Bool → ℕ → Mark → Result Ask Reply → Fixed → Outcome → Mark → Type 0
AnswersAsk conf alone seat a (Ok (asks.Items batch)) lack outcome b = AnswersBatch alone seat a batch lack outcome b × (b.noted ≡ a.noted)
AnswersAsk conf alone seat a (Ok (asks.Noted batch)) lack outcome b = AnswersNoted alone seat a batch outcome b × Notes alone a batch outcome b
AnswersAsk conf alone seat a (Ok (asks.Query query)) lack outcome b = AnswersQuery conf alone a query lack outcome b × (b.noted ≡ a.noted)
AnswersAsk conf alone seat a (Err reply) lack outcome b = IsReply reply lack outcome × (b ≡ a)

-- where the seat's mark is a, the message may be answered so, and the mark is b then
unfoldable pub Answers : Configuration → Bool → ℕ → Mark → Request → Outcome → Mark → Type 0
Answers conf alone seat a message outcome b = AnswersAsk conf alone seat a (heard message) (lack_of message) outcome b
