use Rattle.std.proofs.Common.{sym, eq-eqb, ne_eqb}
use Rattle.gj_base.proofs.LeadsLemmas.{leads_more, leads_found, or_none}
use Rattle.gj_window.proofs.segments.Segments.has_pooled.Goals as goal

pub returns-then-end-other : goal.returns-then-end-other
returns-then-end-other c =
    sym (leads_found _ _ c.args.other c.end_pooled-end.result c.end_pooled-end.ensures (eq-eqb _ _ c.if-end-other.true))

pub loop-i-preserved : goal.loop-i-preserved
loop-i-preserved c =
    or_none _ _ _ (leads_more _ c.loop-i.i c.args.other c.end_pooled-end.result c.end_pooled-end.ensures) c.loop-i.invariant (ne_eqb _ _ c.if-end-other.false)
