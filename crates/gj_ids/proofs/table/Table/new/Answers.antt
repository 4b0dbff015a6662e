use Rattle.std.proofs.Common.{arith}
use Rattle.gj_ids.proofs.Probing.{halved}
use Rattle.gj_ids.proofs.table.Table.new.Goals as goal

pub loop-size-preserved : goal.loop-size-preserved
loop-size-preserved c =
    let same = halved c.loop-size.size c.loop-size.shift c.loop-size.invariant.whole (omega arith) in
    record {
      whole = same;
      least = omega arith;
      some = omega arith;
      shifted = omega arith;
    }
