use Rattle.std.proofs.Common.{take}
use Rattle.gj_subgraph.specs.Numbers.{ArePlaced}
use Rattle.gj_subgraph.proofs.relaid.matched.Given as goal

abbrev pub invariant-loop-k : goal.invariant-loop-k
invariant-loop-k l = ArePlaced (take l.k l.to.names.items) l.from.names.items l.places.items
