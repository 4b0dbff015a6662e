use Rattle.std.proofs.Common.{ℕ, ◌≤◌, not, nat_eq, length, refl, arith, rules}
use Rattle.std.specs.HashSet.{contains}
use Rattle.gj_proof.proofs.RankLemmas.{considered, considered_all, by_rank_considered, considered_none, by_rank_empty}
use Rattle.gj_proof.proofs.best.best_of.Goals as goal

pub loop-post-init : goal.loop-post-init
loop-post-init c = record {
  so_far = considered_none _ _ _ _ _ c.new-best.ensures.items c.into_iter-post-iterator.ensures.into_iter_gives.0;
  ordered = by_rank_empty _ c.new-best.ensures.items;
  few = omega arith;
}

pub loop-post-preserved : goal.loop-post-preserved
loop-post-preserved c =
    let pair : ℕ × ℕ = (c.in-Some.post.now, c.in-Some.number.now) in
    let hidden = contains nat_eq c.args.hidden.now c.in-Some.post.now in
    record {
      so_far = considered c.args.top (λ p. not (contains nat_eq c.args.hidden.now p.0)) hidden c.loop-post.best.items _ _ _ _ pair refl
          c.in-Some.ensures.steps c.in_ok-consider.ensures.ok c.loop-post.invariant.so_far;
      ordered = by_rank_considered c.args.top hidden c.loop-post.best.items _ pair c.in_ok-consider.ensures.ok c.loop-post.invariant.ordered;
      few = c.in_ok-consider.ensures.few;
    }

pub returns : goal.returns
returns c =
    let few : length c.loop-post.best.items ≤ c.args.top = search rules in
    considered_all c.args.top (λ p. not (contains nat_eq c.args.hidden.now p.0)) _ _ _ few c.in-None.ensures.steps.0 c.loop-post.invariant.so_far
