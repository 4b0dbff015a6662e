use Rattle.std.proofs.Common.{◌<◌, ◌*◌, ◌+◌, ℕ, length, get_or, min}
use Rattle.gj_compact.specs.Spans.{Bounds, no_span}
use Rattle.gj_compact.proofs.spans.span_blocks.Given as goal

abbrev pub invariant-loop-b : goal.invariant-loop-b
invariant-loop-b l =
    (b : ℕ) → b < l.b → Bounds (get_or l.spans b no_span) l.moments (min (length l.moments) (64 * b)) (min (length l.moments) (64 * b + 64))
