use Rattle.std.proofs.Common.{◌≡◌, ◌<◌, ◌+◌, ◌-◌, [], length, filter, take, drop, get_or, slice_get, Some, refl, ap, arith, sym, ◌∙◌}
use Rattle.std.proofs.lemmas.Option.{slice_get-get_or}
use Rattle.gj_base.specs.declared.kind.Kind.TheVariants.{Click}
use Rattle.gj_compact.specs.declared.edge.End.{End}
use Rattle.std.proofs.lemmas.List.{drop_all, length-drop}
use Rattle.std.proofs.lemmas.List.Sums.{length-filter}
use Rattle.gj_base.proofs.EndsLemmas.{first_of_drop, drop_past}
use Rattle.gj_compact.specs.Blocks.{lets_through}
use Rattle.gj_compact.proofs.BlockLemmas.{part_from, part_past, filter_yes, filter_no}
use Rattle.gj_compact.proofs.cells.Cells.scan_nth.Goals as goal
use Rattle.gj_compact.proofs.cells.Cells.scan_nth.Goals.{then-lets_at+else-left-eq0, else-lets_at}

pub loop-k-init : goal.loop-k-init
loop-k-init c =
    let none : c.args.from - c.args.from ≡ 0 = omega arith in
    rw none refl

pub returns-then-left-eq0 : goal.returns-then-left-eq0
returns-then-left-eq0 c =
    let lets : c.lets_at.result ≡ lets_through c.args.mask c.get.result = rw (c.get.ensures) at c.lets_at.ensures in
    let part = take (c.args.to - c.args.from) (drop c.args.from c.args.self.now.ends) in
    let here = part_from c.args.self.now.ends c.args.from c.args.to c.loop-k.k c.get.result (omega (arith, c.loop-k.auto.k)) c.loop-k-test.true c.requires.inside c.get.ensures in
    let step = filter_yes c.args.mask c.get.result (drop (c.loop-k.k - c.args.from) part) (drop (c.loop-k.k + 1 - c.args.from) part) here (sym lets ∙ c.if-lets_at.true) in
    first_of_drop (filter (lets_through c.args.mask) part) c.args.i c.get.result (filter (lets_through c.args.mask) (drop (c.loop-k.k + 1 - c.args.from) part))
    (c.loop-k.invariant ∙ rw c.if-left-eq0.true step)

pub loop-k-preserved : goal.loop-k-preserved
loop-k-preserved c =
    let none : End = record { vertex = 0; kind = Click; at = 0 } in
    let end : End = get_or c.args.self.now.ends c.loop-k.k none in
    let is : slice_get c.args.self.now.ends c.loop-k.k ≡ Some end = slice_get-get_or c.args.self.now.ends c.loop-k.k none (omega (arith, c.loop-k-test.true, c.requires.inside)) in
    let lets : c.lets_at.result ≡ lets_through c.args.mask end = rw is at c.lets_at.ensures in
    let part = take (c.args.to - c.args.from) (drop c.args.from c.args.self.now.ends) in
    let here = part_from c.args.self.now.ends c.args.from c.args.to c.loop-k.k end (omega (arith, c.loop-k.auto.k)) c.loop-k-test.true c.requires.inside is in
    elim c.if-lets_at.branch [
      | then-lets_at+else-left-eq0 w ↦
          (let step = filter_yes c.args.mask end (drop (c.loop-k.k - c.args.from) part) (drop (c.loop-k.k + 1 - c.args.from) part) here (sym lets ∙ w.if-lets_at.true) in
          let above : 0 < c.loop-k.left = omega arith in
          c.loop-k.invariant ∙ rw (step, w.left-is) (drop_past c.loop-k.left _ _ above))
      | else-lets_at w ↦
          (let step = filter_no c.args.mask end (drop (c.loop-k.k - c.args.from) part) (drop (c.loop-k.k + 1 - c.args.from) part) here (sym lets ∙ w.if-lets_at.false) in
          c.loop-k.invariant ∙ rw (step, w.left-is) refl)
    ]

pub unreachable-requires : goal.unreachable-requires
unreachable-requires c =
    let part = take (c.args.to - c.args.from) (drop c.args.from c.args.self.now.ends) in
    let past = part_past c.args.self.now.ends c.args.from c.args.to c.loop-k.k (omega (arith, c.loop-k-test.false)) in
    let none : drop c.args.i (filter (lets_through c.args.mask) part) ≡ [] = c.loop-k.invariant ∙ rw past (drop_all c.loop-k.left [] (omega arith)) in
    omega (arith, length-drop c.args.i (filter (lets_through c.args.mask) part), ap length none, length-filter (lets_through c.args.mask) part, c.requires.index)
