use Rattle.gj_compact.proofs.NoteLemmas.{NotedTo}
use Rattle.gj_compact.proofs.turns.note_all.Given as goal

abbrev pub invariant-loop-edge : goal.invariant-loop-edge
invariant-loop-edge l = NotedTo l.fn.lane l.lane l.side l.edges l.edge-index
