-- What a caller learns that counts the bytes of a body.
use Rattle.std.specs.Prelude.{◌≡◌, ℕ, ◌≤◌, length, Option, Some, None, Result, Ok, Err}
use Rattle.gj_http.specs.Request.{Request}
use Rattle.gj_http.specs.Cut.{IsMessage, IsRefused, NeedsMore}
use Rattle.gj_http.specs.Held.{Held}
use Rattle.gj_http.specs.declared.message.Refused.{Refused}

abbrev pub IsTaken : Held → Held → Result ℕ (Option Refused) → Type 0
IsTaken old new (Ok n) = (request : Request) × (IsMessage old.bytes request new.bytes × (length request.body ≡ n))
IsTaken old new (Err None) = NeedsMore old.bytes × (new.bytes ≡ old.bytes) × (8192 ≤ new.room)
IsTaken old new (Err (Some why)) = IsRefused old.bytes why × (new.bytes ≡ old.bytes)
