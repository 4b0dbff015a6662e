use Rattle.gj_compact.specs.Blocks.{AreBounds, moments_between}
use Rattle.gj_compact.proofs.cells.Cells.bounds.Given as goal

abbrev pub invariant-loop-i : goal.invariant-loop-i
invariant-loop-i l = AreBounds (moments_between l.from l.i l.self.ends) l.least l.greatest
