use Rattle.std.proofs.Common.{◌≡◌, ◌-◌, ◌++◌, length, take, filter}
use Rattle.gj_base.specs.declared.side.Side.TheVariants.{Post}
use Rattle.gj_base.specs.Ends.{ends, leads_to}
use Rattle.gj_proof.proofs.explain.picked.Given as goal

abbrev pub invariant-loop-seed : goal.invariant-loop-seed
invariant-loop-seed g l =
    let explains = leads_to (ends (g.G.Graph.shown l.graph).items Post l.post l.mask) in
    l.proof ++ take (l.most - length l.proof) (filter explains l.seed-iterator) ≡ take l.most (filter explains l.ordered.keys)
