use Rattle.std.proofs.Common.{rules, arith}
use Rattle.gj_serve.specs.declared.desks.Desk.{Desk}
use Rattle.gj_serve.specs.Passes.{Tallies}
use Rattle.gj_service.specs.Desks.{IsServedDesk}
use Rattle.gj_service.proofs.DeskLemmas.{all_front, all_last, sum_more}
use Rattle.gj_service.proofs.closing.clear.Goals as goal

pub loop-desk-preserved : goal.loop-desk-preserved
loop-desk-preserved g c =
    let inv = c.loop-desk.invariant in
    let served = rw c.in-Some.ensures.items at inv.served in
    let here : IsServedDesk c.in-Some.desk.seat.posted c.in-Some.desk.pass = all_last (λ (d : Desk g.row.W.Denot g.row.J.Denot g.row.T.Denot g.row.B.Denot g.row.O.Denot g.row.E.Denot). IsServedDesk d.seat.posted d.pass) c.pop.new.self.items c.in-Some.desk served in
    let passes = c.push_reserved.ensures.items in
    let taken = sum_more (λ (p : Tallies). p.taken) c.push_reserved.new.self.items c.loop-desk.passes.items c.in-Some.desk.pass passes in
    let back = sum_more (λ (p : Tallies). p.back) c.push_reserved.new.self.items c.loop-desk.passes.items c.in-Some.desk.pass passes in
    let overs = sum_more (λ (p : Tallies). p.overs) c.push_reserved.new.self.items c.loop-desk.passes.items c.in-Some.desk.pass passes in
    let entered = sum_more (λ (p : Tallies). p.entered) c.push_reserved.new.self.items c.loop-desk.passes.items c.in-Some.desk.pass passes in
    let posted = sum_more (λ s. s.posted) c.push_reserved-in-Some.new.self.items c.loop-desk.seats.items c.in-Some.desk.seat c.push_reserved-in-Some.ensures.items in
    record {
      served = all_front (λ (d : Desk g.row.W.Denot g.row.J.Denot g.row.T.Denot g.row.B.Denot g.row.O.Denot g.row.E.Denot). IsServedDesk d.seat.posted d.pass) c.pop.new.self.items c.in-Some.desk served;
      passes = search rules;
      seats = search rules;
      room = search rules;
      all_back = omega (arith, taken, back, inv.all_back, here.all_back);
      told = λ some. omega (arith, overs, here.told);
      entered = omega (arith, entered, posted, inv.entered, here.entered);
    }
