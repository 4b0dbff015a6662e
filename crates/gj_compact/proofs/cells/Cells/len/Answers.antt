use Rattle.std.proofs.Common.{length, ap, arith}
use Rattle.gj_compact.specs.Cells.{Celled}
use Rattle.gj_compact.proofs.CellLemmas.{length-joined}
use Rattle.gj_compact.proofs.cells.Cells.len.Goals as goal

pub returns : goal.returns
returns c =
    let long = length-joined c.self.inside.vertices.items _ _ c.self.invariant.kinds c.self.invariant.moments in
    omega (arith, c.len.ensures, ap (λ (x : Celled). length x.ends) c.self.view_is, long, c.self.inside.vertices.ok)
