use Rattle.std.proofs.Common.{◌≤◌, ◌+◌, ℕ, List, arith}
use Rattle.gj_compact.specs.declared.edge.End.{End}
use Rattle.gj_compact.specs.Blocks.{lets_through}
use Rattle.gj_compact.proofs.SpanLemmas.{count_rest}
use Rattle.gj_compact.proofs.cells.Cells.count_by_blocks.Goals as goal

pub loop-at-preserved : goal.loop-at-preserved
loop-at-preserved c =
    let cells : List End = c.args.self.now.ends in
    let next : ℕ = c.loop-at.at + c.min.result in
    let low : c.args.from ≤ c.loop-at.at = c.loop-at.invariant.from in
    let order : c.loop-at.at ≤ next = omega arith in
    let split = count_rest (lets_through c.args.mask) cells c.args.from c.loop-at.at next low order in
    record {
      from = omega arith;
      to = omega (arith, c.min.ensures, c.loop-at-test.true);
      few = omega (arith, c.loop-at.invariant.few, c.count_in_block-count.ensures.in_range, low);
      counted = omega (arith, split, c.loop-at.invariant.counted, c.count_in_block-count.ensures.exact);
    }
