use Rattle.std.proofs.Common.{ap}
use Rattle.gj_compact.specs.Lanes.{Laned}
use Rattle.gj_compact.proofs.RowLemmas.{shown_none}
use Rattle.gj_compact.proofs.lane.Lane.new.Goals as goal

pub returns-clause-fresh : goal.returns-clause-fresh
returns-clause-fresh c = ap (λ (l : Laned). l.fresh) (shown_none c.in-Ok.rows.items c.args.vertices c.in_ok-cells.cells c.in-Ok.ensures.items)

pub returns-clause-runs : goal.returns-clause-runs
returns-clause-runs c = ap (λ (l : Laned). l.runs) (shown_none c.in-Ok.rows.items c.args.vertices c.in_ok-cells.cells c.in-Ok.ensures.items)
