use Rattle.gj_once.proofs.WithinLemmas.{within_posted}
use Rattle.gj_once.proofs.once_index.OnceIndexIndex.post_items.Goals as goal

pub invariant_of-self : goal.invariant_of-self
invariant_of-self g c = record {
  within = within_posted _ _ c.args.items.now c.args.self.now.once c.post_items.result (g.met.I.Index.is_window c.args.self.now.index)
      c.post_items.ensures.shows c.post_items.ensures.stays c.args.self.now.within;
}
