use Rattle.gj_directory.proofs.CountLemmas.{counts_some}
use Rattle.gj_directory.proofs.directory.drop_front.Goals as goal

pub less-requires : goal.less-requires
less-requires c = counts_some c.loop-i.counts c.in-Some.edge c.pop_front.new.self.items c.loop-i.edges.items c.loop-i.invariant.counted c.in-Some.ensures.items
