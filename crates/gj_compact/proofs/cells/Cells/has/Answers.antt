use Rattle.std.proofs.Common.{◌≡◌, ◌-◌, get_or, slice_get, Some, refl, ap, arith, sym, ◌∙◌}
use Rattle.std.specs.List.{list_any}
use Rattle.std.proofs.lemmas.Option.{slice_get-get_or}
use Rattle.gj_base.specs.declared.kind.Kind.TheVariants.{Click}
use Rattle.gj_compact.specs.declared.edge.End.{End}
use Rattle.gj_compact.specs.Blocks.{reaches}
use Rattle.gj_compact.proofs.BlockLemmas.{part_from, part_past}
use Rattle.gj_compact.proofs.ReachLemmas.{any_here, any_later}
use Rattle.gj_compact.proofs.cells.Cells.has.Goals as goal

pub loop-i-init : goal.loop-i-init
loop-i-init c =
    let none : c.args.from - c.args.from ≡ 0 = omega arith in
    rw none refl

pub returns-then-reaches_at : goal.returns-then-reaches_at
returns-then-reaches_at c =
    let none : End = record { vertex = 0; kind = Click; at = 0 } in
    let end : End = get_or c.args.self.now.ends c.loop-i.i none in
    let is : slice_get c.args.self.now.ends c.loop-i.i ≡ Some end = slice_get-get_or c.args.self.now.ends c.loop-i.i none (omega (arith, c.loop-i-test.true, c.requires.inside)) in
    let told : c.reaches_at.result ≡ reaches c.args.vertex c.args.mask end = rw is at c.reaches_at.ensures in
    let here = part_from c.args.self.now.ends c.args.from c.args.to c.loop-i.i end (omega (arith, c.loop-i.auto.i)) c.loop-i-test.true c.requires.inside is in
    sym (c.loop-i.invariant ∙ any_here (reaches c.args.vertex c.args.mask) end _ _ here (sym told ∙ c.if-reaches_at.true))

pub loop-i-preserved : goal.loop-i-preserved
loop-i-preserved c =
    let none : End = record { vertex = 0; kind = Click; at = 0 } in
    let end : End = get_or c.args.self.now.ends c.loop-i.i none in
    let is : slice_get c.args.self.now.ends c.loop-i.i ≡ Some end = slice_get-get_or c.args.self.now.ends c.loop-i.i none (omega (arith, c.loop-i-test.true, c.requires.inside)) in
    let told : c.reaches_at.result ≡ reaches c.args.vertex c.args.mask end = rw is at c.reaches_at.ensures in
    let here = part_from c.args.self.now.ends c.args.from c.args.to c.loop-i.i end (omega (arith, c.loop-i.auto.i)) c.loop-i-test.true c.requires.inside is in
    c.loop-i.invariant ∙ any_later (reaches c.args.vertex c.args.mask) end _ _ here (sym told ∙ c.if-reaches_at.false)

pub returns : goal.returns
returns c =
    let past = part_past c.args.self.now.ends c.args.from c.args.to c.loop-i.i (omega (arith, c.loop-i-test.false)) in
    sym (c.loop-i.invariant ∙ ap (list_any (reaches c.args.vertex c.args.mask)) past)
