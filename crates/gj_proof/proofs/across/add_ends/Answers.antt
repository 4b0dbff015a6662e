use Rattle.gj_base.proofs.LeadsLemmas.{leads_more}
use Rattle.gj_proof.proofs.EndsLemmas.{or_more}
use Rattle.gj_proof.proofs.across.add_ends.Goals as goal

pub loop-i-preserved : goal.loop-i-preserved
loop-i-preserved g c = λ v.
    or_more _ _ _ _ _ _ (c.in_ok-add.ensures v) (c.loop-i.invariant v) (leads_more _ c.loop-i.i v c.edge-end.result c.edge-end.ensures)
