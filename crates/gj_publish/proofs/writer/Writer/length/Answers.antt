use Rattle.std.proofs.Common.{subst}
use Rattle.gj_publish.specs.Writers.{WriterView, RowsAre}
use Rattle.gj_publish.proofs.Growing.{rows_kept}
use Rattle.gj_publish.proofs.writer.Writer.length.Goals as goal

pub returns-clause-kept : goal.returns-clause-kept
returns-clause-kept g c =
    let is = c.self.invariant.4 in
    subst (λ (v : WriterView). RowsAre g.J.Opening.conf v.kept v.accepted) c.self.view_is
    (rows_kept g.J.Opening.conf c.self.inside.book c.self.inside.scribe.history is.keeps is.conf_is)
