-- What a step says, and what the framer holds when its message is given back.
use Rattle.std.specs.Prelude.{◌≡◌, ℕ, ◌≤◌, List, ⊤, drop}
use Rattle.std.specs.Borrow.{follows_so, MutBor, Fml}
use mathlib.Core.Option.{none}
use Rattle.gj_http.specs.Request.{request}
use Rattle.gj_http.specs.Cut.{IsMessage, IsRefused, NeedsMore}
use Rattle.gj_http.specs.Held.{Held}
use Rattle.gj_http.specs.declared.front.MessageSpans.{MessageSpans}
use Rattle.gj_http.specs.declared.message.Step.{Step}
use Rattle.gj_http.specs.declared.message.Step.TheVariants.{Message, NeedMore, Refused}
use Rattle.gj_http.specs.contracts.framer.Framer.{the_row}

-- the lent framer ends as a value of which this holds
abbrev pub EndsWith : MutBor Held → (Held → Type 0) → Fml
EndsWith lender P = follows_so the_row the_row lender.ghost_name none (λ _ _. ⊤) P

-- the message that was found is held no more
abbrev pub Takes : Held → MessageSpans → Held → Type 0
Takes old found new = (new.bytes ≡ drop found.body.end old.bytes) × (new.room ≡ old.room)

-- the step says what stands at the front, and a message is held no more
abbrev pub HoldsAfter : Held → Step → Held → Type 0
HoldsAfter old (Message m) new = IsMessage old.bytes (request m) new.bytes × (old.room ≤ new.room)
HoldsAfter old NeedMore new = NeedsMore old.bytes × (new.bytes ≡ old.bytes) × (8192 ≤ new.room)
HoldsAfter old (Refused why) new = IsRefused old.bytes why × (new.bytes ≡ old.bytes) × (new.room ≡ old.room)

-- the step says what stands at the front
abbrev pub Says : List ℕ → Step → Type 0
Says bytes (Message m) = (rest : List ℕ) × IsMessage bytes (request m) rest
Says bytes NeedMore = NeedsMore bytes
Says bytes (Refused why) = IsRefused bytes why
