use Rattle.std.proofs.Common.{ap, ◌∙◌}
use Rattle.gj_compact.specs.Lanes.{emptied}
use Rattle.gj_compact.proofs.RowLemmas.{rows_emptied}
use Rattle.gj_compact.proofs.lane.Lane.clear.Goals as goal

pub returns : goal.returns
returns c =
    rows_emptied c.self.inside.rows.items _ c.self.inside.vertices c.self.inside.cells c.self.invariant.0.few c.clear.ensures.items ∙ ap emptied c.self.view_is
