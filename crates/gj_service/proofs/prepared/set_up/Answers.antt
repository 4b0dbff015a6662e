use Rattle.std.proofs.Common.{◌≡◌, rules}
use Rattle.std.proofs.lemmas.List.Elements.{All-push}
use Rattle.gj_serve.specs.declared.desks.Desk.{Desk}
use Rattle.gj_publish.specs.Seats.{SeatView}
use Rattle.gj_serve.specs.Passes.{Tallies, no_tallies}
use Rattle.gj_service.specs.Desks.{IsFreshDesk}
use Rattle.gj_service.proofs.DeskLemmas.{all_front, all_last}
use Rattle.gj_service.proofs.prepared.set_up.Goals as goal

pub loop-seat-preserved : goal.loop-seat-preserved
loop-seat-preserved g c =
    let inv = c.loop-seat.invariant in
    let seats = rw c.in-Some.ensures.items at inv.seats in
    let last = rw c.unwrap-pass.ensures at c.pop-in-Some.ensures.items in
    let passes = rw last at inv.passes in
    let seat : c.in-Some.seat.posted ≡ 0 = all_last (λ (s : SeatView). s.posted ≡ 0) c.pop.new.self.items c.in-Some.seat seats in
    let pass : c.unwrap-pass.result ≡ no_tallies = all_last (λ (p : Tallies). p ≡ no_tallies) c.pop-in-Some.new.self.items c.unwrap-pass.result passes in
    record {
      made = search rules;
      room = search rules;
      same = search rules;
      seats = all_front (λ (s : SeatView). s.posted ≡ 0) c.pop.new.self.items c.in-Some.seat seats;
      passes = all_front (λ (p : Tallies). p ≡ no_tallies) c.pop-in-Some.new.self.items c.unwrap-pass.result passes;
      fresh = rw c.push_reserved.ensures.items
          (All-push (λ (d : Desk g.row.W.Denot g.row.J.Denot g.row.T.Denot g.row.B.Denot g.row.O.Denot g.row.E.Denot). IsFreshDesk d.seat.posted d.pass) c.loop-seat.desks.items _ inv.fresh
          (record { posted = seat; pass = pass }));
    }
