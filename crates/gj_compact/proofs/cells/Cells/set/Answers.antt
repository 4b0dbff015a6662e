use Rattle.std.proofs.Common.{List, length, ap, ◌∙◌, arith}
use Rattle.gj_compact.specs.declared.edge.End.{End}
use Rattle.gj_compact.specs.Cells.{Celled, with_end}
use Rattle.gj_compact.proofs.CellLemmas.{length-joined, set-joined}
use Rattle.gj_compact.proofs.cells.Cells.set.Goals as goal

pub index_mut-requires : goal.index_mut-requires
index_mut-requires c =
    let long = length-joined c.self.inside.vertices.items _ _ c.self.invariant.kinds c.self.invariant.moments in
    omega (arith, c.requires, ap (λ (x : Celled). length x.ends) c.self.view_is, long, c.self.inside.vertices.ok)

pub index_mut-requires-2 : goal.index_mut-requires-2
index_mut-requires-2 c =
    let long = length-joined c.self.inside.vertices.items _ _ c.self.invariant.kinds c.self.invariant.moments in
    omega (arith, c.requires, ap (λ (x : Celled). length x.ends) c.self.view_is, long, c.self.invariant.kinds, c.self.inside.kinds.ok)

pub index_mut-requires-3 : goal.index_mut-requires-3
index_mut-requires-3 c =
    let long = length-joined c.self.inside.vertices.items _ _ c.self.invariant.kinds c.self.invariant.moments in
    omega (arith, c.requires, ap (λ (x : Celled). length x.ends) c.self.view_is, long, c.self.invariant.moments, c.self.inside.moments.ok)

pub returns : goal.returns
returns c =
    let shown : List End → Celled = λ l. record { ends = l; room = c.self.inside.room } in
    ap shown (set-joined c.self.inside.vertices.items c.self.inside.kinds.items c.self.inside.moments.items c.args.i c.args.end.vertex c.args.end.kind c.args.end.at)
    ∙ ap (λ (x : Celled). with_end x c.args.i c.args.end) c.self.view_is
