use Rattle.std.proofs.Common.{◌≡◌, ◌+◌, ◌<◌, rules, arith}
use Rattle.gj_base.specs.declared.list_graph.ListGraph.{ListGraph}
use Rattle.gj_serve.specs.declared.desks.Desk.{Desk}
use Rattle.gj_serve.specs.Passes.{Tallies}
use Rattle.gj_serve_uses.proofs.DeskLemmas.{all_front, all_last, sum_more}
use Rattle.gj_serve_uses.proofs.serving.clear.Goals as goal

pub loop-desk-preserved : goal.loop-desk-preserved
loop-desk-preserved g c =
    let inv = c.loop-desk.invariant in
    let told = rw c.in-Some.ensures.items at inv.told in
    let here : 0 < c.in-Some.desk.pass.overs = all_last (λ (d : Desk ListGraph g.row.J.Denot g.row.T.Denot g.row.B.Denot g.row.O.Denot g.row.E.Denot). 0 < d.pass.overs) c.pop.new.self.items c.in-Some.desk told in
    let overs = sum_more (λ (p : Tallies). p.overs) c.push_reserved.new.self.items c.loop-desk.passes.items c.in-Some.desk.pass c.push_reserved.ensures.items in
    record {
      told = all_front (λ (d : Desk ListGraph g.row.J.Denot g.row.T.Denot g.row.B.Denot g.row.O.Denot g.row.E.Denot). 0 < d.pass.overs) c.pop.new.self.items c.in-Some.desk told;
      passes = search rules;
      seats = search rules;
      room = search rules;
      overs = λ some. omega (arith, overs, here);
    }
