use Rattle.std.proofs.Common.{refl, sym, subst}
use Rattle.gj_base.specs.History.{StandsFor}
use Rattle.gj_base.specs.declared.history.History.{History}
use Rattle.gj_publish.proofs.seat.look_at.Goals as goal

pub returns-clause-answer : goal.returns-clause-answer
returns-clause-answer g c =
    let pane = c.pane.inside in
    let P : History → Type 0 = λ f. StandsFor (g.W.Graph.shown pane.graph) f in
    let stands : P c.again-seen.result = subst P (sym c.again-seen.ensures) c.pane.invariant.0 in
    (pane.graph, stands, c.pane.invariant.1, (_, c.f-answer.ensures, refl))
