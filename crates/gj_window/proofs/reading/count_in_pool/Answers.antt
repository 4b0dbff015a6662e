use Rattle.std.proofs.Common.{arith}
use Rattle.gj_window.proofs.PartLemmas.{ends_few}
use Rattle.gj_window.proofs.reading.count_in_pool.Goals as goal

pub returns-then-len-eq0-clause-exact : goal.returns-then-len-eq0-clause-exact
returns-then-len-eq0-clause-exact c = omega (arith, ends_few c.args.pool.now.items c.args.side c.args.id c.args.mask, c.len.ensures, c.if-len-eq0.true)
