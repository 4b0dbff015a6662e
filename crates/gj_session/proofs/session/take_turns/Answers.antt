use Rattle.std.proofs.Common.{◌≡◌, [], ap, arith}
use Rattle.gj_http.specs.Held.{Held}
use Rattle.gj_session.proofs.LoopLemmas.{session_none, session_more, replayed_messages, replayed_fault, replayed_turns, replayed_input}
use Rattle.gj_session.proofs.session.take_turns.Goals as goal

pub turns-init : goal.turns-init
turns-init g c =
    let bytes : c.reset.new.self.bytes ≡ [] = ap (λ (h : Held). h.bytes) c.reset.ensures in
    let room : c.reset.new.self.room ≡ 1064960 = ap (λ (h : Held). h.room) c.reset.ensures in
    record {
      session = session_none _ _ _ _ _ c.reset.new.self.bytes c.one_front.ensures.empty bytes;
      room = omega (arith, room);
      steady = λ s. s;
    }

pub returns-in_default-clause-replayed : goal.returns-in_default-clause-replayed
returns-in_default-clause-replayed g c =
    let inv = c.turns.invariant in
    rw c.take_piece.ensures.others
    (replayed_fault _ _ _ _ _ _ _ _ _ c.turns.framer.bytes c.turns.turn c.args.turns inv.session c.in_default.ensures.err c.turns-test.true)

pub returns-in-Some-clause-replayed : goal.returns-in-Some-clause-replayed
returns-in-Some-clause-replayed g c =
    let inv = c.turns.invariant in
    let ended = rw c.take_piece.ensures.others at c.in-Some.ensures.drained in
    rw c.drain.ensures.others
    (replayed_messages c.loop_keeps.ensures.join c.loop_keeps.ensures.feed _ _ _ _ _ _ _ _ _ _ _ c.turns.framer.bytes c.take_piece.new.framer.bytes c.turns.turn c.in-Ok.n c.args.turns c.in-Some.end inv.session c.in-Ok.ensures.ok c.turns-test.true ended c.in-Some.ensures.by_messages)

pub turns-preserved : goal.turns-preserved
turns-preserved g c =
    let inv = c.turns.invariant in
    let drained = rw (c.take_piece.ensures.others, c.in_default-drain.is) at c.drain.ensures.drained in
    record {
      session = rw c.drain.ensures.others
          (session_more c.loop_keeps.ensures.join c.loop_keeps.ensures.feed _ _ _ _ _ _ _ _ _ _ _ c.turns.framer.bytes c.take_piece.new.framer.bytes c.drain.new.framer.bytes c.turns.turn c.in-Ok.n inv.session c.in-Ok.ensures.ok c.if-n-eq0.false drained.0 drained.1);
      room = c.drain.ensures.room c.in_default-drain.is;
      steady = λ s. c.drain.ensures.steady (c.take_piece.ensures.steady (inv.steady s)).1;
    }

pub returns-clause-replayed : goal.returns-clause-replayed
returns-clause-replayed g c =
    let inv = c.turns.invariant in
    replayed_turns _ _ _ _ _ _ _ _ c.turns.framer.bytes c.turns.turn c.args.turns inv.session (omega (arith, c.turns-test.false))

pub returns-then-n-eq0-clause-replayed : goal.returns-then-n-eq0-clause-replayed
returns-then-n-eq0-clause-replayed g c =
    let inv = c.turns.invariant in
    rw c.take_piece.ensures.others
    (replayed_input _ _ _ _ _ _ _ _ _ c.turns.framer.bytes c.take_piece.new.framer.bytes c.turns.turn c.in-Ok.n c.args.turns c.at_end.result inv.session c.in-Ok.ensures.ok c.if-n-eq0.true c.turns-test.true c.at_end.ensures)
