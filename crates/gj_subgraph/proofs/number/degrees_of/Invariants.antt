use Rattle.std.proofs.Common.{take}
use Rattle.gj_subgraph.specs.Numbers.{AreDegrees}
use Rattle.gj_subgraph.proofs.number.degrees_of.Given as goal

abbrev pub invariant-loop-i : goal.invariant-loop-i
invariant-loop-i l = AreDegrees (take l.i l.side) l.names l.degrees.items
