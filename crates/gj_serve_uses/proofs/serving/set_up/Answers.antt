use Rattle.std.proofs.Common.{◌≡◌, rules}
use Rattle.std.proofs.lemmas.List.Elements.{All-push}
use Rattle.gj_base.specs.declared.list_graph.ListGraph.{ListGraph}
use Rattle.gj_serve.specs.declared.desks.Desk.{Desk}
use Rattle.gj_serve.specs.Passes.{Tallies, no_tallies}
use Rattle.gj_serve_uses.proofs.DeskLemmas.{all_front, all_last}
use Rattle.gj_serve_uses.proofs.serving.set_up.Goals as goal

pub loop-seat-preserved : goal.loop-seat-preserved
loop-seat-preserved g c =
    let inv = c.loop-seat.invariant in
    let last = rw c.unwrap-pass.ensures at c.pop-in-Some.ensures.items in
    let passes = rw last at inv.passes in
    let pass : c.unwrap-pass.result ≡ no_tallies = all_last (λ (p : Tallies). p ≡ no_tallies) c.pop-in-Some.new.self.items c.unwrap-pass.result passes in
    record {
      made = search rules;
      room = search rules;
      same = search rules;
      passes = all_front (λ (p : Tallies). p ≡ no_tallies) c.pop-in-Some.new.self.items c.unwrap-pass.result passes;
      unused = rw c.push_reserved.ensures.items
          (All-push (λ (d : Desk ListGraph g.row.J.Denot g.row.T.Denot g.row.B.Denot g.row.O.Denot g.row.E.Denot). d.pass ≡ no_tallies) c.loop-seat.desks.items _ inv.unused pass);
    }
