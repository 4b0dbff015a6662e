use Rattle.std.proofs.Common.{ap, not, nat_eq, ℕ}
use Rattle.std.specs.HashSet.{contains}
use Rattle.gj_proof.specs.Ranking.{ranked_of, is_shown}
use Rattle.gj_proof.proofs.RankLemmas.{filter_same}
use Rattle.gj_proof.proofs.order.rank.Goals as goal

pub returns : goal.returns
unfolding ranked_of
returns g c =
    let items = (g.G.Graph.shown c.args.graph.now).items in
    let kept = filter_same (λ (pair : ℕ × ℕ). not (contains nat_eq c.in_ok-hidden.hidden pair.0)) (is_shown items c.args.seeds.now c.args.hide)
    (λ pair. ap not (c.in_ok-hidden.ensures pair.0)) c.args.scores.now.entries in
    rw (c.as_slice.ensures.value, c.in_ok-best.ensures, kept) at c.unexplained.ensures
