use Rattle.gj_request.proofs.TakenLemmas.{GoesOn}
use Rattle.gj_request.proofs.plain_items.read_item.Given as goal

abbrev pub invariant-loop : goal.invariant-loop
invariant-loop l = GoesOn l.fn.reader l.reader l.parts
