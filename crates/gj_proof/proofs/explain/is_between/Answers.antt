use Rattle.std.proofs.Common.{◌∙◌}
use Rattle.gj_proof.proofs.EndsLemmas.{leads_back}
use Rattle.gj_proof.proofs.explain.is_between.Goals as goal

pub returns-then-count : goal.returns-then-count
returns-then-count g c = c.has_end.ensures ∙ leads_back (g.G.Graph.shown c.args.graph.now).items c.args.seed c.args.post c.args.mask
