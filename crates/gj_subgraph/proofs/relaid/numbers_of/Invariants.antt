use Rattle.std.proofs.Common.{◌≡◌, [], take, fold}
use Rattle.gj_subgraph.specs.Masses.{with_vertex}
use Rattle.gj_subgraph.specs.Numbers.{AreNumbers}
use Rattle.gj_subgraph.proofs.relaid.numbers_of.Given as goal

abbrev pub invariant-loop-id : goal.invariant-loop-id
invariant-loop-id l = record {
  numbers : AreNumbers l.numbers l.names.items;
  names : l.names.items ≡ fold with_vertex [] (take l.id-index l.side);
}
