use Rattle.std.proofs.Common.{List, length, slice_get, ap, sym, ◌∙◌, arith}
use Rattle.gj_compact.specs.declared.edge.End.{End}
use Rattle.gj_compact.specs.Cells.{Celled}
use Rattle.gj_compact.proofs.CellLemmas.{length-joined, get-joined}
use Rattle.gj_compact.proofs.cells.Cells.get.Goals as goal

pub index-requires : goal.index-requires
index-requires c =
    let long = length-joined c.self.inside.vertices.items _ _ c.self.invariant.kinds c.self.invariant.moments in
    omega (arith, c.requires, ap (λ (x : Celled). length x.ends) c.self.view_is, long, c.self.inside.vertices.ok)

pub index-requires-2 : goal.index-requires-2
index-requires-2 c =
    let long = length-joined c.self.inside.vertices.items _ _ c.self.invariant.kinds c.self.invariant.moments in
    omega (arith, c.requires, ap (λ (x : Celled). length x.ends) c.self.view_is, long, c.self.invariant.kinds, c.self.inside.kinds.ok)

pub index-requires-3 : goal.index-requires-3
index-requires-3 c =
    let long = length-joined c.self.inside.vertices.items _ _ c.self.invariant.kinds c.self.invariant.moments in
    omega (arith, c.requires, ap (λ (x : Celled). length x.ends) c.self.view_is, long, c.self.invariant.moments, c.self.inside.moments.ok)

pub returns : goal.returns
returns c =
    ap (λ (l : List End). slice_get l c.args.i) (sym (ap (λ (x : Celled). x.ends) c.self.view_is))
    ∙ get-joined c.self.inside.vertices.items c.self.inside.kinds.items c.self.inside.moments.items c.args.i _ _ _
    (omega (arith, c.requires, ap (λ (x : Celled). length x.ends) c.self.view_is)) c.index.ensures c.index-2.ensures c.index-3.ensures
