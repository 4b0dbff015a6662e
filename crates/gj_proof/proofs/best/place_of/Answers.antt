use Rattle.std.proofs.Common.{◌≡◌, ◌-◌, true, get_or, arith, sym}
use Rattle.gj_proof.specs.Ranking.{comes_before}
use Rattle.gj_proof.proofs.RankLemmas.{placed_at}
use Rattle.gj_proof.proofs.best.place_of.Goals as goal

pub returns-then-comes_before-clause-exact : goal.returns-then-comes_before-clause-exact
returns-then-comes_before-clause-exact c =
    let here : comes_before (get_or c.args.best.now (c.loop-at.at - 1) (0, 0)) c.args.pair ≡ true = sym c.if-comes_before.ensures in
    placed_at c.args.best.now c.loop-at.at c.args.pair (0, 0) c.requires c.loop-at.invariant.in_range
    (λ m e. let same : m ≡ c.loop-at.at - 1 = omega arith in rw same here) c.loop-at.invariant.not_here

pub returns-clause-exact : goal.returns-clause-exact
returns-clause-exact c =
    placed_at c.args.best.now c.loop-at.at c.args.pair (0, 0) c.requires c.loop-at.invariant.in_range
    (λ m e. absurd (omega arith)) c.loop-at.invariant.not_here
