use Rattle.std.proofs.Common.{arith}
use Rattle.gj_base.specs.declared.kind.Kind.TheVariants.{Click, Favorite, Retweet, Reply, Tweet}
use Rattle.gj_compact.proofs.counts.Counts.more.Goals as goal

pub overflow_add-result : goal.overflow_add-result
overflow_add-result c = omega (arith, c.requires Click, c.one.ensures.in_range)

pub overflow_add-result-2 : goal.overflow_add-result-2
overflow_add-result-2 c = omega (arith, c.requires Favorite, c.one-2.ensures.in_range)

pub overflow_add-result-3 : goal.overflow_add-result-3
overflow_add-result-3 c = omega (arith, c.requires Retweet, c.one-3.ensures.in_range)

pub overflow_add-result-4 : goal.overflow_add-result-4
overflow_add-result-4 c = omega (arith, c.requires Reply, c.one-4.ensures.in_range)

pub overflow_add-result-5 : goal.overflow_add-result-5
overflow_add-result-5 c = omega (arith, c.requires Tweet, c.one-5.ensures.in_range)
