use Rattle.std.proofs.Common.{◌≡◌, length}
use Rattle.gj_session.specs.Loop.{GoesOn, LedBy}
use Rattle.gj_session.proofs.session.drain.Given as goal

abbrev pub invariant-messages : goal.invariant-messages
invariant-messages g l = record {
  goes : GoesOn (LedBy g.row.A.Denot g.A.Answering.answers l.fn.answerer l.answerer)
      (g.B.Wire.going l.fn.wire l.fn.out) (g.B.Wire.going l.wire l.out) l.fn.framer.bytes l.framer.bytes;
  steady : g.B.Wire.steady l.fn.wire l.fn.out → g.B.Wire.steady l.wire l.out;
  others : g.B.Wire.coming l.wire l.out ≡ g.B.Wire.coming l.fn.wire l.fn.out;
}

abbrev pub decreases-messages : goal.decreases-messages
decreases-messages g l = length l.framer.bytes
