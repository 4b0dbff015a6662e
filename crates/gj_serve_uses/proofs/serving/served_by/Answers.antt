use Rattle.std.proofs.Common.{◌≡◌, ◌<◌, length, All, sym, subst, arith}
use Rattle.gj_base.specs.declared.list_graph.ListGraph.{ListGraph}
use Rattle.gj_serve.specs.declared.desks.Desk.{Desk}
use Rattle.gj_serve_uses.proofs.DeskLemmas.{take_front}
use Rattle.gj_serve_uses.proofs.serving.served_by.Goals as goal

-- the desks that the workers left are all of the list
pub clear-cleared-requires-clause-told : goal.clear-cleared-requires-clause-told
clear-cleared-requires-clause-told g c =
    let all : length c.serve_all.new.desks ≡ c.args.desks.len = omega (arith, c.serve_all.auto.desks, c.as_mut_slice.ensures.len) in
    subst (All (λ (d : Desk ListGraph g.row.J.Denot g.row.T.Denot g.row.B.Denot g.row.O.Denot g.row.E.Denot). 0 < d.pass.overs)) (sym (take_front _ _ _ all))
    (λ k d lt. (c.serve_all.ensures k d (omega (arith, lt, c.serve_all.auto.desks))).told)
