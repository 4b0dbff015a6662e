-- What the loop of a session knows on its way.
use Rattle.std.specs.Prelude.{◌≡◌, ℕ, ◌≤◌, Bool, true, false, IsTrue, List, [], ◌++◌, length, Option, Some, None, Result, Ok, Err}
use Rattle.gj_base.specs.declared.ask.Ask.{Ask}
use Rattle.gj_http.specs.Cut.{NeedsMore, IsBetween}
use Rattle.gj_http.specs.declared.message.Refused.{Refused}
use Rattle.gj_reply.specs.declared.fixed.Fixed.{Fixed}
use Rattle.gj_reply.specs.declared.fixed.Fixed.TheVariants.{Memory}
use Rattle.gj_reply.specs.declared.reply.Reply.{Reply}
use Rattle.gj_session.specs.Heard.{framing_reply, heard, lack_of}
use Rattle.gj_session.specs.Outcomes.{IsReply, outcome_bytes}
use Rattle.gj_session.specs.Runs.{Exchange, Leads, transcript}
use Rattle.gj_session.specs.Sessions.{any_closes, Exchanges, Ended}
use Rattle.gj_base.specs.Streams.{Incoming, Outgoing, FailedOnce, Took, Wrote, WrotePart}
use Rattle.gj_session.specs.declared.outcome.Outcome.{Outcome}
use Rattle.gj_session.specs.declared.outcome.End.{End}
use Rattle.gj_session.specs.declared.outcome.End.TheVariants.{Finished, Closed, Truncated, Stopped, WriteFault}

-- all of it went out, or a proper beginning
abbrev pub GaveOut : {A E : Type 0} → Outgoing → Outgoing → List ℕ → Result A E → Type 0
GaveOut a b whole (Ok _) = Wrote a b whole
GaveOut a b whole (Err _) = WrotePart a b [] whole

-- the exchanges lead what answers from one state to another, by what each message asks for
abbrev pub LedBy : (S : Type 0) → (S → Result Ask Reply → Fixed → Outcome → S → Type 0) → S → S → List Exchange → Type 0
LedBy S answers a b exchanges = Leads S (λ x m outcome y. answers x (heard m) (lack_of m) outcome y) a b exchanges

-- the messages at the front of the bytes were answered, and the session goes on
pub record GoesOn (ran : List Exchange → Type 0) (a b : Outgoing) (bytes rest : List ℕ) : Type 0 where
  pub exchanges : List Exchange
  pub answered : Exchanges ran bytes exchanges rest
  pub quiet : any_closes exchanges ≡ false
  pub wrote : Wrote a b (transcript exchanges)

-- the answer to one message went out, and the session goes on or ended
abbrev pub AfterAnswer : Option End → Bool → Outgoing → Outgoing → List ℕ → Type 0
AfterAnswer None close a b bytes = (close ≡ false) × Wrote a b bytes
AfterAnswer (Some Closed) close a b bytes = (close ≡ true) × Wrote a b bytes
AfterAnswer (Some WriteFault) close a b bytes = WrotePart a b [] bytes
AfterAnswer (Some _) close a b bytes = ⊥

-- one message was answered as it may be
pub record Answered (may : Outcome → Type 0) (a b : Outgoing) (close : Bool) (result : Option End) : Type 0 where
  pub outcome : Outcome
  pub answers : may outcome
  pub after : AfterAnswer result close a b (outcome_bytes outcome close)

-- the refusal's reply was written with close, or a proper beginning of it
abbrev pub RefusalEnds : End → Outgoing → Outgoing → Refused → Type 0
RefusalEnds (Stopped which) a b why =
    (which ≡ why) × ((outcome : Outcome) × (IsReply (framing_reply why) Memory outcome × Wrote a b (outcome_bytes outcome true)))
RefusalEnds WriteFault a b why =
    (outcome : Outcome) × (IsReply (framing_reply why) Memory outcome × WrotePart a b [] (outcome_bytes outcome true))
RefusalEnds _ a b why = ⊥

-- what came of the messages that were held
abbrev pub Drained : (List Exchange → Type 0) → Outgoing → Outgoing → List ℕ → List ℕ → Option End → Type 0
Drained ran a b bytes rest None = GoesOn ran a b bytes rest × NeedsMore rest
Drained ran a b bytes rest (Some end) = Ended ran a b bytes end

-- n bytes of the input came to what is held; none where the input ended
pub record TookPiece (a b : Incoming) (held holds : List ℕ) (n : ℕ) : Type 0 where
  pub piece : List ℕ
  pub count : length piece ≡ n
  pub fed : holds ≡ held ++ piece
  pub took : Took a b piece 1
  pub same : b.faults ≡ a.faults
  pub end : IsTrue a.tells → n ≡ 0 → a.stream.left ≡ []

-- a read failed
pub record TookNone (a b : Incoming) : Type 0 where
  pub took : Took a b [] 1
  pub failed : FailedOnce a.faults b.faults

-- a session that goes on: these bytes were taken, and the messages in them were answered
pub record InSession (ran : List Exchange → Type 0) (in_old in_now : Incoming) (out_old out_now : Outgoing) (rest : List ℕ) (reads : ℕ) : Type 0 where
  pub bytes : List ℕ
  pub took : Took in_old in_now bytes reads
  pub same : in_now.faults ≡ in_old.faults
  pub goes : GoesOn ran out_old out_now bytes rest
  pub more : NeedsMore rest
  pub many : reads ≤ length bytes

-- how a session ends where its input ends with these bytes held
abbrev pub EndsInput : End → List ℕ → Type 0
EndsInput Finished held = IsBetween held
EndsInput Truncated held = IsBetween held → ⊥
EndsInput _ held = ⊥

-- the end came of a message or a refusal, and not of the input's end
abbrev pub IsByMessages : End → Type 0
IsByMessages Closed = Unit {0}
IsByMessages (Stopped _) = Unit {0}
IsByMessages WriteFault = Unit {0}
IsByMessages _ = ⊥
