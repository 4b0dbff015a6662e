use Rattle.std.proofs.Common.{◌≡◌, ◌<◌, ◌≤◌, ℕ, List, length, min, max, subst, arith, sym}
use Rattle.gj_compact.specs.Blocks.{AreBounds, moments_between}
use Rattle.gj_compact.proofs.BlockLemmas.{bounds_one, bounds_more, between_one, between_more}
use Rattle.gj_compact.proofs.cells.Cells.bounds.Goals as goal

pub loop-i-init : goal.loop-i-init
loop-i-init c =
    subst (λ (l : List ℕ). AreBounds l c.get-least.result.at c.get-least.result.at)
    (sym (between_one c.args.self.now.ends c.args.from c.get-least.result (omega (arith, c.requires.some, c.requires.inside)) c.get-least.ensures))
    (bounds_one c.get-least.result.at)

pub loop-i-preserved : goal.loop-i-preserved
loop-i-preserved c =
    let at = c.get-at.result.at in
    let below : c.loop-i.i < length c.args.self.now.ends = omega (arith, c.loop-i-test.true, c.requires.inside) in
    let order : c.args.from ≤ c.loop-i.i = omega (arith, c.loop-i.auto.i) in
    let more = bounds_more (moments_between c.args.from c.loop-i.i c.args.self.now.ends) at c.loop-i.least c.loop-i.greatest c.loop-i.invariant in
    let low : c.min-least.result ≡ min c.loop-i.least at = omega (arith, c.min-least.ensures) in
    let high : c.max-greatest.result ≡ max c.loop-i.greatest at = omega (arith, c.max-greatest.ensures) in
    rw (low, high, between_more c.args.self.now.ends c.args.from c.loop-i.i c.get-at.result order below c.get-at.ensures) more
