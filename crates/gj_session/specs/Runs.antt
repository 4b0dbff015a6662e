-- A session's run: each message with its answer, and where this leaves the session's seat.
use Rattle.std.specs.Prelude.{◌≡◌, ℕ, Bool, List, [], ◌∷◌, map, count_by}
use Rattle.std.specs.List.{flat_map}
use Rattle.gj_base.specs.Configuration.{Configuration}
use Rattle.gj_http.specs.Request.{Request}
use Rattle.gj_session.specs.Answers.{Answers}
use Rattle.gj_session.specs.Marks.{Mark}
use Rattle.gj_session.specs.Outcomes.{outcome_bytes, is_store}
use Rattle.gj_session.specs.declared.outcome.Outcome.{Outcome}

-- a message and its answer
pub record Exchange : Type 0 where
  pub message : Request
  pub outcome : Outcome

abbrev pub messages_of : List Exchange → List Request
messages_of exchanges = map (λ e. e.message) exchanges

-- the exchanges lead from one state to another, one by one
abbrev pub Leads : (S : Type 0) → (S → Request → Outcome → S → Type 0) → S → S → List Exchange → Type 0
Leads S answers a b [] = b ≡ a
Leads S answers a b (e ∷ exchanges) = (next : S) × (answers a e.message e.outcome next × Leads S answers next b exchanges)

-- the messages are answered in order, each where the earlier ones left the seat; alone, or beside other seats
abbrev pub Run : Configuration → Bool → ℕ → Mark → Mark → List Exchange → Type 0
Run conf alone seat a b exchanges = Leads Mark (Answers conf alone seat) a b exchanges

abbrev pub exchange_bytes : Exchange → List ℕ
exchange_bytes e = outcome_bytes e.outcome e.message.close

-- the bytes of all answers, in order
abbrev pub transcript : List Exchange → List ℕ
transcript exchanges = flat_map exchange_bytes exchanges

-- how many answers are the store's fault
abbrev pub stores_in : List Exchange → ℕ
stores_in exchanges = count_by (λ e. is_store e.outcome) exchanges
