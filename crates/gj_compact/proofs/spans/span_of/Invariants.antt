use Rattle.gj_compact.specs.Spans.{Bounds}
use Rattle.gj_compact.proofs.spans.span_of.Given as goal

abbrev pub invariant-loop-i : goal.invariant-loop-i
invariant-loop-i l = Bounds (record { least = l.least; greatest = l.greatest }) l.moments l.from l.i
