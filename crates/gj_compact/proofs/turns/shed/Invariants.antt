use Rattle.gj_compact.proofs.TurnLemmas.{ShedTo}
use Rattle.gj_compact.proofs.turns.shed.Given as goal

abbrev pub invariant-loop-edge : goal.invariant-loop-edge
invariant-loop-edge l = ShedTo l.fn.lane l.lane l.side l.edges l.edge-index
