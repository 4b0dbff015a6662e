use Rattle.std.proofs.Common.{◌≤◌, ◌-◌, length, take}
use Rattle.gj_base.specs.Streams.{Wrote, outgoing}
use Rattle.gj_pages.proofs.sending.send.Given as goal

abbrev pub invariant-loop-at : goal.invariant-loop-at
invariant-loop-at g l = record {
  within : l.at ≤ length l.bytes;
  wrote : Wrote (outgoing (g.O.Sink.tells l.fn.out) (g.O.Sink.written l.fn.out) (g.O.Sink.faults l.fn.out) (g.O.Sink.sure l.fn.out))
      (outgoing (g.O.Sink.tells l.out) (g.O.Sink.written l.out) (g.O.Sink.faults l.out) (g.O.Sink.sure l.out)) (take l.at l.bytes);
}

abbrev pub decreases-loop-at : goal.decreases-loop-at
decreases-loop-at g l = length l.bytes - l.at
