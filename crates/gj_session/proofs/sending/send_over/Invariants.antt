use Rattle.std.proofs.Common.{◌≡◌, ◌≤◌, ◌-◌, length, take}
use Rattle.gj_base.specs.Streams.{Wrote}
use Rattle.gj_session.proofs.sending.send_over.Given as goal

abbrev pub invariant-loop-at : goal.invariant-loop-at
invariant-loop-at g l = record {
  within : l.at ≤ length l.bytes;
  wrote : Wrote (g.B.Wire.going l.fn.wire l.fn.out) (g.B.Wire.going l.wire l.out) (take l.at l.bytes);
  steady : g.B.Wire.steady l.fn.wire l.fn.out → g.B.Wire.steady l.wire l.out;
  others : g.B.Wire.coming l.wire l.out ≡ g.B.Wire.coming l.fn.wire l.fn.out;
}

abbrev pub decreases-loop-at : goal.decreases-loop-at
decreases-loop-at g l = length l.bytes - l.at
