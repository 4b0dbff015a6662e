use Rattle.gj_window.proofs.WindowLemmas.{begun}
use Rattle.gj_window.proofs.window.WindowGrow.make.Goals as goal

pub invariant_of-result : goal.invariant_of-result
invariant_of-result c =
    let s = c.in_ok-segments.ensures in
    record { window = begun c.args.start c.in_ok-segments.segments c.args.conf s.conf s.empty s.in_range c.requires.aligned c.requires.room }
