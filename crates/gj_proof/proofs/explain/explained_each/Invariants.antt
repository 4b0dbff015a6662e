use Rattle.std.proofs.Common.{◌≡◌, take, map}
use Rattle.gj_proof.specs.Ranking.{explained_by}
use Rattle.gj_proof.proofs.explain.explained_each.Given as goal

abbrev pub invariant-loop-ranked : goal.invariant-loop-ranked
invariant-loop-ranked g l =
    l.explained ≡ map (explained_by (g.G.Graph.shown l.graph).items l.ordered.keys l.mask l.most) (take l.ranked-index l.ranking)
