use Rattle.gj_subgraph.specs.Numbers.{units_in}
use Rattle.gj_subgraph.proofs.StepLemmas.{Stepped}
use Rattle.gj_subgraph.proofs.step.half_step.Given as goal

abbrev pub invariant-loop-k : goal.invariant-loop-k
invariant-loop-k l =
    Stepped l.near.side.items l.far.side.items l.near.names.items l.far.names.items (units_in l.near.names.items l.units) l.k l.more.items l.out.items
