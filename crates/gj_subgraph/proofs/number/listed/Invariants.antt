use Rattle.std.proofs.Common.{◌≡◌, take}
use Rattle.gj_subgraph.proofs.number.listed.Given as goal

abbrev pub invariant-loop-v : goal.invariant-loop-v
invariant-loop-v l = l.ids.items ≡ take l.v l.names.ids
