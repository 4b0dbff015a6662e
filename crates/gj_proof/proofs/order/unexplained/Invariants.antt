use Rattle.std.proofs.Common.{◌≡◌, take, map}
use Rattle.gj_proof.specs.Ranking.{unexplained}
use Rattle.gj_proof.proofs.order.unexplained.Given as goal

abbrev pub invariant-loop-pair : goal.invariant-loop-pair
invariant-loop-pair l = l.ranking ≡ map unexplained (take l.pair-index l.best)
