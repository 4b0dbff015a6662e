-- What a session took, answered and wrote, and how it ended.
use Rattle.std.specs.Prelude.{◌≡◌, ◌⊎◌, ℕ, ◌≤◌, ◌==◌, Bool, true, false, IsTrue, List, [], ◌∷◌, ◌++◌, length, Option, Some, None}
use Rattle.std.specs.List.{list_any}
use Rattle.gj_http.specs.Calls.{InFront}
use Rattle.gj_http.specs.Cut.{IsRefused, NeedsMore, IsBetween, Cuts, empty_lines}
use Rattle.gj_http.specs.Request.{Request}
use Rattle.gj_http.specs.declared.message.Refused.{Refused}
use Rattle.gj_reply.specs.declared.fixed.Fixed.TheVariants.{Memory}
use Rattle.gj_session.specs.Heard.{framing_reply}
use Rattle.gj_session.specs.Outcomes.{IsReply, outcome_bytes}
use Rattle.gj_session.specs.Runs.{Exchange, messages_of, exchange_bytes, transcript}
use Rattle.gj_base.specs.Streams.{Incoming, Outgoing, FailedOnce, Took, Wrote, WrotePart}
use Rattle.gj_session.specs.declared.outcome.Outcome.{Outcome}
use Rattle.gj_session.specs.declared.outcome.End.{End}
use Rattle.gj_session.specs.declared.outcome.End.TheVariants.{Finished, Closed, Truncated, Stopped, ReadFault, WriteFault, Turns}

-- a message asks for close
abbrev pub any_closes : List Exchange → Bool
any_closes exchanges = list_any (λ e. e.message.close) exchanges

-- the last message alone asks for close
pub record ClosesLast (exchanges : List Exchange) : Type 0 where
  pub done : List Exchange
  pub last : Exchange
  pub parts : exchanges ≡ done ++ last ∷ []
  pub quiet : any_closes done ≡ false
  pub closes : last.message.close ≡ true

-- after the answers the refusal's reply was written, with close
pub record WroteRefusal (a b : Outgoing) (exchanges : List Exchange) (why : Refused) : Type 0 where
  pub outcome : Outcome
  pub reply : IsReply (framing_reply why) Memory outcome
  pub wrote : Wrote a b (transcript exchanges ++ outcome_bytes outcome true)

-- the last answer was cut: each before it was written whole, and of it a proper beginning
pub record CutAnswer (a b : Outgoing) (exchanges : List Exchange) : Type 0 where
  pub done : List Exchange
  pub last : Exchange
  pub parts : exchanges ≡ done ++ last ∷ []
  pub quiet : any_closes done ≡ false
  pub wrote : WrotePart a b (transcript done) (exchange_bytes last)

-- the refusal's reply was cut
pub record CutRefusal (a b : Outgoing) (exchanges : List Exchange) (rest : List ℕ) : Type 0 where
  pub why : Refused
  pub refused : IsRefused rest why
  pub quiet : any_closes exchanges ≡ false
  pub outcome : Outcome
  pub reply : IsReply (framing_reply why) Memory outcome
  pub wrote : WrotePart a b (transcript exchanges) (outcome_bytes outcome true)

-- all messages were answered, none asked for close, and what follows them is no whole message
pub record IsOpen (a b : Outgoing) (exchanges : List Exchange) (rest : List ℕ) : Type 0 where
  pub quiet : any_closes exchanges ≡ false
  pub more : NeedsMore rest
  pub wrote : Wrote a b (transcript exchanges)

-- how a session ended, after these exchanges and with this rest
abbrev pub Ends : End → Outgoing → Outgoing → List Exchange → List ℕ → Type 0
Ends Finished a b exchanges rest = IsOpen a b exchanges rest × IsBetween rest
Ends Truncated a b exchanges rest = IsOpen a b exchanges rest × (IsBetween rest → ⊥)
Ends ReadFault a b exchanges rest = IsOpen a b exchanges rest
Ends Turns a b exchanges rest = IsOpen a b exchanges rest
Ends Closed a b exchanges rest = ClosesLast exchanges × Wrote a b (transcript exchanges)
Ends (Stopped why) a b exchanges rest = (any_closes exchanges ≡ false) × (IsRefused rest why × WroteRefusal a b exchanges why)
Ends WriteFault a b exchanges rest = CutAnswer a b exchanges ⊎ CutRefusal a b exchanges rest

-- some exchanges over bytes: which messages they answer, and what was run
pub record Exchanges (ran : List Exchange → Type 0) (bytes : List ℕ) (exchanges : List Exchange) (rest : List ℕ) : Type 0 where
  pub front : InFront bytes (messages_of exchanges) rest
  pub run : ran exchanges

-- a session over bytes that ended
pub record Ended (ran : List Exchange → Type 0) (a b : Outgoing) (bytes : List ℕ) (end : End) : Type 0 where
  pub exchanges : List Exchange
  pub rest : List ℕ
  pub answered : Exchanges ran bytes exchanges rest
  pub ends : Ends end a b exchanges rest

-- the whole input was taken
abbrev pub IsAll : End → List ℕ → Type 0
IsAll Finished left = left ≡ []
IsAll Truncated left = left ≡ []
IsAll _ left = Unit {0}

-- all reads that are allowed were made, and each took at least one byte
abbrev pub IsTurned : End → ℕ → ℕ → List ℕ → Type 0
IsTurned Turns reads turns bytes = (reads ≡ turns) × (turns ≤ length bytes)
IsTurned _ reads turns bytes = Unit {0}

-- the count of failed reads
abbrev pub FailedReads : End → ℕ → ℕ → Type 0
FailedReads ReadFault before now = FailedOnce before now
FailedReads _ before now = now ≡ before

-- a whole session, by its end: what it took between two moments, what it answered, and what it wrote
pub record Replayed (ran : List Exchange → Type 0) (in_old in_new : Incoming) (out_old out_new : Outgoing) (turns : ℕ) (end : End) : Type 0 where
  pub bytes : List ℕ
  pub reads : ℕ
  pub took : Took in_old in_new bytes reads
  pub few : reads ≤ turns
  pub turned : IsTurned end reads turns bytes
  pub all : IsTrue in_old.tells → IsAll end in_new.stream.left
  pub failed : FailedReads end in_old.faults in_new.faults
  pub ended : Ended ran out_old out_new bytes end

-- the end that a whole input has, where it is cut so
abbrev pub end_of_cut : Bool → Option Refused → Bool → End
end_of_cut true refusal between = Closed
end_of_cut false (Some why) between = Stopped why
end_of_cut false None true = Finished
end_of_cut false None false = Truncated

-- no fault and no count of turns ended the session
abbrev pub IsByInput : End → Type 0
IsByInput ReadFault = ⊥
IsByInput WriteFault = ⊥
IsByInput Turns = ⊥
IsByInput _ = Unit {0}

-- then its end is a function of the whole input
abbrev pub EndsByInput : List ℕ → End → Type 0
EndsByInput input end =
    (messages : List Request) (refusal : Option Refused) (rest : List ℕ) → Cuts input messages refusal rest
    → end ≡ end_of_cut (list_any (λ m. m.close) messages) refusal (empty_lines rest == length rest)
