use Rattle.std.specs.List.{All}
use Rattle.gj_publish.specs.SeatCalls.{IsSeatCall}
use Rattle.gj_publish_uses.proofs.noted_tests.calls_of.Given as goal

abbrev pub invariant-loop-seat : goal.invariant-loop-seat
invariant-loop-seat l = All (IsSeatCall 2) l.calls.items
