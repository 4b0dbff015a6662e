-- Bounds of the moments of each block of 64 cells. Private to this crate: no public clause cites them.
use Rattle.std.specs.Prelude.{ℕ, ◌+◌, ◌*◌, ◌<◌, ◌≤◌, List, length, min, slice_index_or}
use Rattle.gj_compact.specs.declared.spans.Span.{Span}

-- the bounds of no moments
abbrev pub no_span : Span
no_span = record { least = 0; greatest = 0 }

-- each moment from one place up to another is within the span
abbrev pub Bounds : Span → List ℕ → ℕ → ℕ → Type 0
Bounds span moments from to = (i : ℕ) → from ≤ i → i < to → (span.least ≤ slice_index_or moments i 0) × (slice_index_or moments i 0 ≤ span.greatest)

-- the span of each block
abbrev pub AreSpans : List Span → List ℕ → Type 0
AreSpans spans moments = (b : ℕ) → b < length spans → Bounds (slice_index_or spans b no_span) moments (min (length moments) (64 * b)) (min (length moments) (64 * b + 64))
