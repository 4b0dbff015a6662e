-- What an index answers, alone: to one ask, and over a run.
use Rattle.std.specs.Prelude.{◌≡◌, ℕ, Bool, true, false, IsTrue, if◌then◌else◌, List, Result}
use Rattle.gj_base.specs.Causes.{RoseBy}
use Rattle.gj_base.specs.History.{StandsFor, conf_of}
use Rattle.gj_base.specs.declared.ask.Ask.{Ask}
use Rattle.gj_base.specs.declared.history.History.{History}
use Rattle.gj_base.specs.declared.history.Shown.{Shown}
use Rattle.gj_once.specs.declared.verdict.LastBatch.{LastBatch}
use Rattle.gj_reply.specs.declared.fixed.Fixed.{Fixed}
use Rattle.gj_reply.specs.declared.reply.Reply.{Reply}
use Rattle.gj_session.specs.Answers.{AnswersAsk}
use Rattle.gj_session.specs.Marks.{mark_at}
use Rattle.gj_session.specs.Outcomes.{is_store}
use Rattle.gj_session.specs.Runs.{Exchange, Run, stores_in}
use Rattle.gj_session.specs.declared.outcome.Outcome.{Outcome}

-- an index at one moment: what its view shows, which histories it keeps, how often a call of its store failed, whether
-- none fails from here on, and what is noted last of each producer
pub record IndexAt : Type 1 where
  pub viewed : Shown
  pub keeps : History → Type 0
  pub faults : ℕ
  pub steady : Bool
  pub noted : List LastBatch

abbrev pub index_at : Shown → (History → Type 0) → ℕ → Bool → List LastBatch → IndexAt
index_at viewed keeps faults steady noted = record { viewed = viewed; keeps = keeps; faults = faults; steady = steady; noted = noted }

-- from a history for which the view stood to one for which it stands, which is kept where the first was kept
pub record Carries (a b : IndexAt) (h new : History) : Type 0 where
  pub shows : StandsFor b.viewed new
  pub keeps : a.keeps h → b.keeps new

-- one where it holds
abbrev pub one_if : Bool → ℕ
one_if b = if b then 1 else 0

-- an ask was answered: from each history for which the view stood; the store's fault is no answer where no call fails
pub record IndexAnswers (a b : IndexAt) (ask : Result Ask Reply) (lack : Fixed) (outcome : Outcome) : Type 0 where
  pub same : conf_of b.viewed ≡ conf_of a.viewed
  pub answers : (h : History) (seat : ℕ) → StandsFor a.viewed h
      → (new : History) × (AnswersAsk (conf_of a.viewed) true seat (mark_at seat h a.noted) ask lack outcome (mark_at seat new b.noted) × Carries a b h new)
  pub stores : RoseBy (one_if (is_store outcome)) a.faults b.faults
  pub steady : IsTrue a.steady → (is_store outcome ≡ false) × IsTrue b.steady

-- from each history for which the view stood, a run alone of these exchanges leads to one for which it stands; the answers
-- by the store's fault are at most as many as its calls that failed, and none where no call fails
pub record IndexRan (a b : IndexAt) (exchanges : List Exchange) : Type 0 where
  pub same : conf_of b.viewed ≡ conf_of a.viewed
  pub runs : (h : History) (seat : ℕ) → StandsFor a.viewed h
      → (new : History) × (Run (conf_of a.viewed) true seat (mark_at seat h a.noted) (mark_at seat new b.noted) exchanges × Carries a b h new)
  pub stores : RoseBy (stores_in exchanges) a.faults b.faults
  pub steady : IsTrue a.steady → (stores_in exchanges ≡ 0) × IsTrue b.steady
