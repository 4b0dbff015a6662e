-- What was found at the front of the bytes, as the parts of the framer answer it.
use Rattle.std.specs.Prelude.{◌≡◌, ◌⊎◌, ℕ, List, length, drop, Ok, Err}
use Rattle.std.specs.Str.{IsUtf8}
use Rattle.httparse.specs.Grammar.{RequestHead}
use Rattle.httparse.specs.Spans.{IsWithin, span_bytes}
use Rattle.gj_http.specs.Heads.{IsHead, body_length, closes, lines_of, method_of, path_of}
use Rattle.gj_http.specs.Request.{Request}
use Rattle.gj_http.specs.Cut.{IsMessage, IsRefused, NeedsMore}
use Rattle.gj_http.specs.Hints.{Knows}
use Rattle.gj_http.specs.declared.front.MessageSpans.{MessageSpans}
use Rattle.gj_http.specs.declared.front.Front.{Front}
use Rattle.gj_http.specs.declared.front.Front.TheVariants.{Whole, Partial, Bad}
use Rattle.gj_http.specs.declared.head.Asked.{Asked}
use Rattle.gj_http.specs.declared.message.Refused.{Refused}
use Rattle.gj_http.specs.declared.message.Refused.TheVariants.{Head}

-- the answer shows what the head asks for
pub record Shows (bytes : List ℕ) (asked : Asked) (head : RequestHead) : Type 0 where
  pub within : IsWithin (length bytes) asked.path
  pub text : IsUtf8 (span_bytes bytes asked.path)
  pub method : asked.method ≡ method_of head.method
  pub path : span_bytes bytes asked.path ≡ path_of head.target
  pub stated : body_length head ≡ Ok asked.length
  pub close : asked.close ≡ closes head.method head.minor (lines_of head)

-- the bytes are no head, or a head that states no length that is taken
abbrev pub IsBad : List ℕ → Refused → Type 0
IsBad bytes why =
    ((why ≡ Head) × ((head : RequestHead) → ¬ (IsHead bytes head)))
    ⊎ ((head : RequestHead) × IsHead bytes head × (body_length head ≡ Err why))

-- the request of the spans
abbrev pub spans_request : List ℕ → MessageSpans → Request
spans_request bytes found = record {
  method = found.method;
  path = span_bytes bytes found.path;
  body = span_bytes bytes found.body;
  close = found.close;
}

-- the message of the spans stands at the front
pub record IsWhole (bytes : List ℕ) (found : MessageSpans) : Type 0 where
  pub path : IsWithin (length bytes) found.path
  pub text : IsUtf8 (span_bytes bytes found.path)
  pub body : IsWithin (length bytes) found.body
  pub message : IsMessage bytes (spans_request bytes found) (drop found.body.end bytes)

-- the answer says what stands at the front
abbrev pub IsFront : List ℕ → Front → Type 0
IsFront bytes (Whole found) = IsWhole bytes found
IsFront bytes (Partial hint) = NeedsMore bytes × Knows bytes hint
IsFront bytes (Bad why) = IsRefused bytes why
