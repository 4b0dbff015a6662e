use Rattle.gj_pages.specs.Loop.{InRun}
use Rattle.gj_base.specs.Streams.{incoming, outgoing}
use Rattle.gj_pages.proofs.following.take_turns.Given as goal

abbrev pub invariant-turns : goal.invariant-turns
invariant-turns g l = record {
  run : InRun l.fn.follower l.follower
      (incoming (g.S.Source.tells l.fn.input) (g.S.Source.stream l.fn.input) (g.S.Source.faults l.fn.input) (g.S.Source.reads l.fn.input))
      (incoming (g.S.Source.tells l.input) (g.S.Source.stream l.input) (g.S.Source.faults l.input) (g.S.Source.reads l.input))
      (outgoing (g.O.Sink.tells l.fn.out) (g.O.Sink.written l.fn.out) (g.O.Sink.faults l.fn.out) (g.O.Sink.sure l.fn.out))
      (outgoing (g.O.Sink.tells l.out) (g.O.Sink.written l.out) (g.O.Sink.faults l.out) (g.O.Sink.sure l.out)) l.line l.turn;
  steady : g.S.Source.steady l.fn.input → g.S.Source.steady l.input;
}
