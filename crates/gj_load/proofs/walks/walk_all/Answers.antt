use Rattle.std.proofs.Common.{◌∙◌, ap, ap₂, sym, arith, ◌+◌}
use Rattle.gj_load.specs.Totals.{best_in}
use Rattle.gj_load.proofs.TotalsLemmas.{sum_none, sum_next}
use Rattle.gj_load.proofs.walks.walk_all.Goals as goal

pub loop-walk_number-init : goal.loop-walk_number-init
loop-walk_number-init g c = record {
  visits = sum_none _ c.args.number c.args.count;
  small = omega arith;
  best = λ some. absurd (omega arith);
}

pub loop-walk_number-preserved : goal.loop-walk_number-preserved
loop-walk_number-preserved g c = record {
  visits = ap₂ (λ a b. a + b) c.loop-walk_number.invariant.visits c.in_ok-once.ensures.visits
      ∙ sym (sum_next _ c.args.number c.args.count c.loop-walk_number.walk_number);
  small = omega (arith, c.in_ok-once.ensures.in_range);
  best = λ some. c.in_ok-once.ensures.best ∙ ap (best_in _ c.args.number c.args.count) (omega arith);
}
