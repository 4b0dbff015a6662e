-- What calls of a framer do to the bytes that it holds.
use Rattle.std.specs.Prelude.{◌≡◌, ℕ, List, [], ◌∷◌, ◌++◌, Option}
use Rattle.gj_http.specs.Request.{Request}
use Rattle.gj_http.specs.Cut.{IsMessage, IsRefused, NeedsMore, Cuts}
use Rattle.gj_http.specs.declared.message.Refused.{Refused}

-- a piece is fed, or `take_next` answers a message, that it needs more, or a refusal
pub data Call : Type 0 where
  Fed : List ℕ → Call
  Took : Request → Call
  Wanted : Call
  Turned : Refused → Call

-- the bytes that the calls feed, joined
abbrev pub fed : List Call → List ℕ
fed [] = []
fed (Fed piece ∷ calls) = piece ++ fed calls
fed (Took _ ∷ calls) = fed calls
fed (Wanted ∷ calls) = fed calls
fed (Turned _ ∷ calls) = fed calls

-- the messages that the calls hand out, in order
abbrev pub taken : List Call → List Request
taken [] = []
taken (Fed _ ∷ calls) = taken calls
taken (Took request ∷ calls) = request ∷ taken calls
taken (Wanted ∷ calls) = taken calls
taken (Turned _ ∷ calls) = taken calls

-- the calls, each with the answer that its contract allows, lead from the held bytes to those held now
abbrev pub Runs : List ℕ → List Call → List ℕ → Type 0
Runs held [] now = held ≡ now
Runs held (Fed piece ∷ calls) now = Runs (held ++ piece) calls now
Runs held (Took request ∷ calls) now = (rest : List ℕ) × (IsMessage held request rest × Runs rest calls now)
Runs held (Wanted ∷ calls) now = NeedsMore held × Runs held calls now
Runs held (Turned why ∷ calls) now = IsRefused held why × Runs held calls now

-- all messages of the held bytes are taken, then a piece is fed, and so on to the last piece
abbrev pub Feeds : List ℕ → List (List ℕ) → List Request → Option Refused → List ℕ → Type 0
Feeds held [] messages refusal rest = Cuts held messages refusal rest
Feeds held (piece ∷ pieces) messages refusal rest =
    (first : List Request) × (seen : Option Refused) × (left : List ℕ) × (later : List Request)
    × Cuts held first seen left × Feeds (left ++ piece) pieces later refusal rest × (messages ≡ first ++ later)

-- the messages stand at the front in order, and after them the held bytes: what a loop over a framer keeps
abbrev pub InFront : List ℕ → List Request → List ℕ → Type 0
InFront bytes [] held = held ≡ bytes
InFront bytes (first ∷ messages) held = (rest : List ℕ) × (IsMessage bytes first rest × InFront rest messages held)
