use Rattle.std.proofs.Common.{arith}
use Rattle.gj_base.specs.declared.kind.Kind.TheVariants.{Click, Favorite, Retweet, Reply, Tweet}
use Rattle.gj_compact.proofs.sums.with_kinds.Goals as goal

pub overflow_add-result : goal.overflow_add-result
overflow_add-result c = omega (arith, c.requires.fits Click, c.from.ensures, c.count_kind.ensures.in_range)

pub overflow_add-result-2 : goal.overflow_add-result-2
overflow_add-result-2 c = omega (arith, c.requires.fits Favorite, c.from-2.ensures, c.count_kind-2.ensures.in_range)

pub overflow_add-result-3 : goal.overflow_add-result-3
overflow_add-result-3 c = omega (arith, c.requires.fits Retweet, c.from-3.ensures, c.count_kind-3.ensures.in_range)

pub overflow_add-result-4 : goal.overflow_add-result-4
overflow_add-result-4 c = omega (arith, c.requires.fits Reply, c.from-4.ensures, c.count_kind-4.ensures.in_range)

pub overflow_add-result-5 : goal.overflow_add-result-5
overflow_add-result-5 c = omega (arith, c.requires.fits Tweet, c.from-5.ensures, c.count_kind-5.ensures.in_range)

pub returns : goal.returns
returns c Click = omega (arith, c.from.ensures, c.count_kind.ensures.exact)
returns c Favorite = omega (arith, c.from-2.ensures, c.count_kind-2.ensures.exact)
returns c Retweet = omega (arith, c.from-3.ensures, c.count_kind-3.ensures.exact)
returns c Reply = omega (arith, c.from-4.ensures, c.count_kind-4.ensures.exact)
returns c Tweet = omega (arith, c.from-5.ensures, c.count_kind-5.ensures.exact)
