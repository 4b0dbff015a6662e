use Rattle.std.proofs.Common.{◌≤◌}
use Rattle.gj_session.specs.Loop.{InSession, LedBy}
use Rattle.gj_session.proofs.session.take_turns.Given as goal

abbrev pub invariant-turns : goal.invariant-turns
invariant-turns g l = record {
  session : InSession (LedBy g.row.A.Denot g.A.Answering.answers l.fn.answerer l.answerer)
      (g.B.Wire.coming l.fn.wire l.fn.out) (g.B.Wire.coming l.wire l.out) (g.B.Wire.going l.fn.wire l.fn.out) (g.B.Wire.going l.wire l.out) l.framer.bytes l.turn;
  room : 8192 ≤ l.framer.room;
  steady : g.B.Wire.steady l.fn.wire l.fn.out → g.B.Wire.steady l.wire l.out;
}
