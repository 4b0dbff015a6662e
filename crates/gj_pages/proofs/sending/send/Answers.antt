use Rattle.std.proofs.Common.{arith}
use Rattle.std.proofs.lemmas.List.{length-drop}
use Rattle.gj_base.proofs.StreamLemmas.{wrote_none, wrote_piece}
use Rattle.gj_pages.proofs.sending.send.Goals as goal

pub loop-at-init : goal.loop-at-init
loop-at-init g c = record { within = omega arith; wrote = wrote_none _ }

pub loop-at-preserved : goal.loop-at-preserved
loop-at-preserved g c =
    let put = c.in_ok-n.ensures in
    let inv = c.loop-at.invariant in
    record {
      within = omega (arith, put.in_range.1, length-drop c.loop-at.at c.args.bytes.now);
      wrote = wrote_piece _ _ _ c.args.bytes.now c.loop-at.at c.in_ok-n.n inv.within inv.wrote put.told put.bytes put.cause.same put.spent put.in_range.1;
    }
