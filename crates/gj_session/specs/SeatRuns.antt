-- What a seat answers beside other seats: to one ask, and over a run.
use Rattle.std.specs.Prelude.{◌≡◌, ◌⊎◌, ℕ, ◌+◌, ◌^◌, ◌≤◌, Bool, true, false, List, length, count_by, sum_by, Result, Ok, Err}
use Rattle.gj_base.specs.Causes.{RoseBy}
use Rattle.gj_base.specs.Configuration.{Configuration}
use Rattle.gj_base.specs.History.{Begins}
use Rattle.gj_base.specs.declared.ask.Ask.{Ask}
use Rattle.gj_base.specs.declared.ask.Ask.TheVariants as asks
use Rattle.gj_once.specs.Judging.{nothing_noted}
use Rattle.gj_publish.specs.Seats.{SeatView, Numbers}
use Rattle.gj_reply.specs.declared.fixed.Fixed.{Fixed}
use Rattle.gj_reply.specs.declared.fixed.Fixed.TheVariants.{Accepted}
use Rattle.gj_reply.specs.declared.reply.Reply.{Reply}
use Rattle.gj_reply.specs.declared.reply.Reply.TheVariants.{Posted, Repeated, Store, Apart}
use Rattle.gj_session.specs.Answers.{AnswersAsk}
use Rattle.gj_session.specs.Heard.{heard}
use Rattle.gj_session.specs.IndexRuns.{one_if}
use Rattle.gj_session.specs.Marks.{Mark}
use Rattle.gj_session.specs.Outcomes.{is_store, is_full, is_apart, is_no_look, is_repeated, is_old, is_skipped}
use Rattle.gj_session.specs.Runs.{Exchange, Run, stores_in}
use Rattle.gj_base.specs.Streams.{Made}
use Rattle.gj_session.specs.declared.outcome.Outcome.{Outcome}
use Rattle.gj_session.specs.declared.outcome.Outcome.TheVariants.{Says, Stands}

-- how far a seat has come; what is noted is the writer's, and a seat's mark does not say it
abbrev pub mark_of : SeatView → Mark
mark_of s = record { seen = s.front; entered = s.posted; noted = nothing_noted }

-- the answer to a batch shows that the seat has looked
abbrev pub is_batch_look : Outcome → Bool
is_batch_look (Says (Posted from length)) = true
is_batch_look (Says Store) = true
is_batch_look (Says (Apart seen shown posted counted)) = true
is_batch_look (Stands Accepted) = true
is_batch_look _ = false

-- the same for a numbered batch
abbrev pub is_noted_look : Outcome → Bool
is_noted_look (Says (Repeated from length)) = true
is_noted_look outcome = is_batch_look outcome

-- the answer to a query shows that the seat has looked
abbrev pub is_query_look : Outcome → Bool
is_query_look (Says reply) = true
is_query_look (Stands which) = false

-- the answer to an ask shows that the seat has looked
abbrev pub is_look : Result Ask Reply → Outcome → Bool
is_look (Ok (asks.Items batch)) outcome = is_batch_look outcome
is_look (Ok (asks.Noted batch)) outcome = is_noted_look outcome
is_look (Ok (asks.Query query)) outcome = is_query_look outcome
is_look (Err reply) outcome = false

-- a numbered batch has entered by the answer
abbrev pub is_fresh : Result Ask Reply → Outcome → Bool
is_fresh (Ok (asks.Noted batch)) (Says (Posted from length)) = true
is_fresh (Ok (asks.Noted batch)) (Stands Accepted) = true
is_fresh ask outcome = false

-- each number of the seat rose by at least as many as there are answers of its kind, and that of refused looks by just as
-- many, or it stands still at the last value of a u64
pub record Counted (a b : Numbers) (exchanges : List Exchange) : Type 0 where
  pub looks : RoseBy (count_by (λ e. is_look (heard e.message) e.outcome) exchanges) a.looks b.looks
  pub refused : Made (count_by (λ e. is_no_look e.outcome) exchanges) a.refused b.refused
  pub store : RoseBy (stores_in exchanges) a.store b.store
  pub full : RoseBy (count_by (λ e. is_full e.outcome) exchanges) a.full b.full
  pub apart : RoseBy (count_by (λ e. is_apart e.outcome) exchanges) a.apart b.apart
  pub fresh : RoseBy (count_by (λ e. is_fresh (heard e.message) e.outcome) exchanges) a.judged_fresh b.judged_fresh
  pub repeated : RoseBy (count_by (λ e. is_repeated e.outcome) exchanges) a.judged_repeat b.judged_repeat
  pub old : RoseBy (count_by (λ e. is_old e.outcome) exchanges) a.judged_old b.judged_old
  pub skipped : RoseBy (count_by (λ e. is_skipped e.outcome) exchanges) a.judged_skipped b.judged_skipped

-- the same for one answer
pub record CountedOne (a b : Numbers) (ask : Result Ask Reply) (outcome : Outcome) : Type 0 where
  pub looks : RoseBy (one_if (is_look ask outcome)) a.looks b.looks
  pub refused : Made (one_if (is_no_look outcome)) a.refused b.refused
  pub store : RoseBy (one_if (is_store outcome)) a.store b.store
  pub full : RoseBy (one_if (is_full outcome)) a.full b.full
  pub apart : RoseBy (one_if (is_apart outcome)) a.apart b.apart
  pub fresh : RoseBy (one_if (is_fresh ask outcome)) a.judged_fresh b.judged_fresh
  pub repeated : RoseBy (one_if (is_repeated outcome)) a.judged_repeat b.judged_repeat
  pub old : RoseBy (one_if (is_old outcome)) a.judged_old b.judged_old
  pub skipped : RoseBy (one_if (is_skipped outcome)) a.judged_skipped b.judged_skipped

-- how many interactions have entered by an answer
abbrev pub entered_by : Result Ask Reply → Outcome → ℕ
entered_by (Ok (asks.Items batch)) (Says (Posted from length_now)) = length batch
entered_by (Ok (asks.Items batch)) (Stands Accepted) = length batch
entered_by (Ok (asks.Noted batch)) (Says (Posted from length_now)) = length batch.items
entered_by (Ok (asks.Noted batch)) (Stands Accepted) = length batch.items
entered_by _ _ = 0

-- how many have entered by all of them: those that were answered as posted or accepted
abbrev pub entered_in : List Exchange → ℕ
entered_in exchanges = sum_by (λ e. entered_by (heard e.message) e.outcome) exchanges

-- it is the same seat, which has seen no less
pub record SameSeat (a b : SeatView) : Type 0 where
  pub number : b.number ≡ a.number
  pub later : Begins a.front b.front

-- a seat answered an ask
pub record SeatAnswers (conf : Configuration) (a b : SeatView) (ask : Result Ask Reply) (lack : Fixed) (outcome : Outcome) : Type 0 where
  pub same : SameSeat a b
  pub answers : AnswersAsk conf false a.number (mark_of a) ask lack outcome (mark_of b)
  pub few : (b.posted ≡ a.posted) ⊎ (b.posted ≤ 2 ^ 48)
  pub counts : CountedOne a.numbers b.numbers ask outcome

-- a seat answered these messages: a run beside other seats leads from where the seat was to where it is, and through it as
-- many interactions entered as were answered as posted or accepted
pub record SeatRan (conf : Configuration) (a b : SeatView) (exchanges : List Exchange) : Type 0 where
  pub same : SameSeat a b
  pub run : Run conf false a.number (mark_of a) (mark_of b) exchanges
  pub entered : b.posted ≡ a.posted + entered_in exchanges
  pub few : entered_in exchanges ≤ 2 ^ 48
  pub in_range : (b.posted ≡ a.posted) ⊎ (b.posted ≤ 2 ^ 48)
  pub counts : Counted a.numbers b.numbers exchanges
