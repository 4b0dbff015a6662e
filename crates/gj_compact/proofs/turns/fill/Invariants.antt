use Rattle.gj_compact.proofs.TurnLemmas.{FilledTo}
use Rattle.gj_compact.proofs.turns.fill.Given as goal

abbrev pub invariant-loop-edge : goal.invariant-loop-edge
invariant-loop-edge l = FilledTo l.fn.lane l.lane l.side l.edges l.edge-index
