use Rattle.std.proofs.Common.{◌≤◌, ◌+◌, ◌-◌, ℕ, List, filter, take, drop, slice_get, ap, sym, ◌∙◌, arith}
use Rattle.gj_compact.specs.declared.edge.End.{End}
use Rattle.gj_compact.specs.Blocks.{lets_through}
use Rattle.gj_compact.proofs.SpanLemmas.{count_rest, nth_rest}
use Rattle.gj_compact.proofs.cells.Cells.nth_by_blocks.Goals as goal

pub scan_nth-requires-clause-index : goal.scan_nth-requires-clause-index
scan_nth-requires-clause-index c =
    let cells : List End = c.args.self.now.ends in
    let next : ℕ = c.loop-at.at + c.min.result in
    let order : c.loop-at.at ≤ next = omega arith in
    let inside : next ≤ c.args.to = omega (arith, c.min.ensures, c.loop-at-test.true) in
    let split = count_rest (lets_through c.args.mask) cells c.loop-at.at next c.args.to order inside in
    omega (arith, split, c.count_in_block-here.ensures.exact, c.if-left-here.true)

pub returns-then-left-here : goal.returns-then-left-here
returns-then-left-here c =
    let cells : List End = c.args.self.now.ends in
    ap (slice_get (filter (lets_through c.args.mask) (take (c.args.to - c.args.from) (drop c.args.from cells)))) (sym c.loop-at.invariant.passed)
    ∙ (nth_rest (lets_through c.args.mask) cells c.args.from c.loop-at.at c.args.to c.loop-at.left c.loop-at.invariant.from c.loop-at.invariant.to ∙ c.scan_nth.ensures)

pub loop-at-preserved : goal.loop-at-preserved
loop-at-preserved c =
    let cells : List End = c.args.self.now.ends in
    let next : ℕ = c.loop-at.at + c.min.result in
    let low : c.args.from ≤ c.loop-at.at = c.loop-at.invariant.from in
    let order : c.loop-at.at ≤ next = omega arith in
    let split = count_rest (lets_through c.args.mask) cells c.args.from c.loop-at.at next low order in
    record {
      from = omega arith;
      to = omega (arith, c.min.ensures, c.loop-at-test.true);
      passed = omega (arith, split, c.loop-at.invariant.passed, c.count_in_block-here.ensures.exact, c.if-left-here.false);
    }
