use Rattle.gj_keep.proofs.LocalLemmas.{grown_conf, grown_end, grown_stands}
use Rattle.std.proofs.Common.{sym, ◌∙◌}
use Rattle.gj_keep.proofs.local.LocalIndex.post_items.Goals as goal

pub invariant_of-self-2 : goal.invariant_of-self-2
invariant_of-self-2 g c = record {
  shows_all = grown_end _ _ c.args.items.now _ _ (g.met.W.Graph.is_window c.args.self.now.graph) c.grow.ensures c.args.self.now.shows_all c.in_ok-receipt.ensures.length;
  configured = grown_conf _ _ _ c.args.items.now c.grow.ensures c.args.self.now.configured ∙ sym c.in_ok-receipt.ensures.same;
}

pub returns-clause-ok : goal.returns-clause-ok
returns-clause-ok g c h seat keeps = (
  grown_stands _ _ h seat c.args.items.now (g.met.W.Graph.is_window c.args.self.now.graph) c.grow.ensures keeps.0,
  c.in_ok-receipt.ensures.ok h seat keeps.1,
)
