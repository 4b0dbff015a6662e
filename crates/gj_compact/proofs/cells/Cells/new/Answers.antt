use Rattle.gj_compact.proofs.CellLemmas.{none-joined}
use Rattle.gj_compact.proofs.cells.Cells.new.Goals as goal

pub returns-clause-ends : goal.returns-clause-ends
returns-clause-ends c = none-joined c.in-Ok.vertices.items c.in-Ok-with_capacity.kinds.items c.in-Ok-with_capacity-2.moments.items c.in-Ok.ensures.items
