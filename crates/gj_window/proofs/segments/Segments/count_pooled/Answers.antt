use Rattle.std.proofs.Common.{◌≡◌, ◌≤◌, ◌++◌, length, arith}
use Rattle.gj_window.proofs.PartLemmas.{ends_fewer}
use Rattle.gj_window.proofs.segments.Segments.count_pooled.Goals as goal

pub returns-then-fresh-eq0-clause-exact : goal.returns-then-fresh-eq0-clause-exact
returns-then-fresh-eq0-clause-exact c =
    omega (arith, c.requires, c.if-fresh-eq0.true, ends_fewer (c.args.self.now.older ++ c.args.self.now.newest) c.args.side c.args.id c.args.mask)

pub returns-clause-few : goal.returns-clause-few
returns-clause-few c =
    omega (arith, c.requires, c.count_pools.ensures.exact, ends_fewer (c.args.self.now.older ++ c.args.self.now.newest) c.args.side c.args.id c.args.mask)
