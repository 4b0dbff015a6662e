use Rattle.std.proofs.Common.{◌-◌, arith, refl}
use Rattle.gj_names.proofs.Probing.{halved}
use Rattle.gj_names.proofs.table.most_slots.Goals as goal

pub loop-size-init : goal.loop-size-init
loop-size-init c = record {
  whole = (60, refl);
  least = omega arith;
  most = omega arith;
}

pub loop-size-preserved : goal.loop-size-preserved
loop-size-preserved c =
    let whole = c.loop-size.invariant.whole in
    record {
      whole = (whole.0 - 1, halved c.loop-size.size whole.0 whole.1 (omega arith));
      least = omega arith;
      most = omega arith;
    }
