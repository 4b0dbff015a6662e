use Rattle.std.proofs.Common.{◌<◌, ◌≤◌, length, arith, sym, ◌∙◌}
use Rattle.gj_compact.proofs.BlockLemmas.{part_yes, part_no}
use Rattle.gj_compact.proofs.cells.Cells.scan_dated.Goals as goal
use Rattle.gj_compact.proofs.cells.Cells.scan_dated.Goals.{then-lets, else-lets}

pub loop-i-preserved : goal.loop-i-preserved
loop-i-preserved c =
    let order : c.args.from ≤ c.loop-i.i = c.loop-i.auto.i in
    let below : c.loop-i.i < length c.args.self.now.ends = omega (arith, c.loop-i-test.true, c.requires.inside) in
    elim c.if-lets.branch [
      | then-lets w ↦
          (let step = part_yes c.args.mask c.args.self.now.ends c.args.from c.loop-i.i c.get-end.result order below c.get-end.ensures (sym c.lets.ensures ∙ w.if-lets.true) in
          omega (arith, w.count-is, c.loop-i.invariant, step))
      | else-lets w ↦
          (let step = part_no c.args.mask c.args.self.now.ends c.args.from c.loop-i.i c.get-end.result order below c.get-end.ensures (sym c.lets.ensures ∙ w.if-lets.false) in
          omega (arith, w.count-is, c.loop-i.invariant, step))
    ]
