use Rattle.gj_request.proofs.TakenLemmas.{GoOn}
use Rattle.gj_request.proofs.plain_items.read_items.Given as goal

abbrev pub invariant-loop : goal.invariant-loop
invariant-loop l = GoOn l.fn.reader l.reader l.items
