use Rattle.std.proofs.Common.{sym}
use Rattle.std.proofs.Math.Bool.{or-false}
use Rattle.std.proofs.lemmas.List.Folds.{list_any_more}
use Rattle.gj_base.specs.Ends.{ends, leads_to}
use Rattle.gj_base.specs.declared.side.Side.TheVariants.{User}
use Rattle.gj_proof.specs.Ranking.{meets}
use Rattle.gj_proof.proofs.EndsLemmas.{or_more}
use Rattle.gj_proof.proofs.across.add_known.Goals as goal

pub loop-seed-init : goal.loop-seed-init
unfolding meets
loop-seed-init g c = λ post. sym (or-false _)

pub loop-seed-preserved : goal.loop-seed-preserved
unfolding meets
loop-seed-preserved g c = λ post.
    let items = (g.G.Graph.shown c.args.graph.now).items in
    or_more _ _ _ _ _ _ (c.in_ok-add_ends.ensures post) (c.loop-seed.invariant post)
    (list_any_more (λ seed. leads_to (ends items User seed c.args.mask) post) c.args.seeds.now c.loop-seed.seed-index 0 c.loop-seed-test.true)
