use Rattle.gj_once.proofs.WithinLemmas.{within_noted}
use Rattle.gj_once.proofs.once_index.OnceIndexNotedIndex.post_noted.Goals as goal

pub invariant_of-self : goal.invariant_of-self
invariant_of-self g c = record {
  within = within_noted _ _ c.as_slice.result.now c.args.self.now.once _ c.asked.inside.producer c.asked.inside.number c.in-Ok.receipt
      (g.met.I.Index.is_window c.args.self.now.index) c.in-Ok.ensures.shows c.in-Ok.ensures.receipt.1 c.note.ensures.exact c.args.self.now.within;
}
