use Rattle.std.proofs.Common.{◌≡◌, ℕ, List, length, get_or, slice_get, Option, IfSome, refl, subst, ap, sym, ◌∙◌, arith}
use Rattle.std.proofs.lemmas.List.{get_or_default}
use Rattle.gj_base.specs.declared.kind.Kind.{Kind}
use Rattle.gj_base.specs.declared.kind.Kind.TheVariants.{Click}
use Rattle.gj_compact.specs.declared.edge.End.{End}
use Rattle.gj_compact.specs.Cells.{Celled}
use Rattle.gj_compact.proofs.CellLemmas.{length-joined, get-joined}
use Rattle.gj_compact.proofs.cells.Cells.vertex.Goals as goal

pub index-requires : goal.index-requires
index-requires c =
    let long = length-joined c.self.inside.vertices.items _ _ c.self.invariant.kinds c.self.invariant.moments in
    omega (arith, c.requires, ap (λ (x : Celled). length x.ends) c.self.view_is, long, c.self.inside.vertices.ok)

pub returns : goal.returns
returns c =
    let vs = c.self.inside.vertices.items in
    let ks : List Kind = c.self.inside.kinds.items in
    let ats : List ℕ = c.self.inside.moments.items in
    let long = length-joined vs ks ats c.self.invariant.kinds c.self.invariant.moments in
    let k : Kind = get_or ks c.args.i Click in
    let a : ℕ = get_or ats c.args.i 0 in
    let here = get-joined vs ks ats c.args.i c.index.result.now k a (omega (arith, c.requires, ap (λ (x : Celled). length x.ends) c.self.view_is)) c.index.ensures
    (get_or_default ks c.args.i Click k (omega (arith, c.requires, ap (λ (x : Celled). length x.ends) c.self.view_is, long, c.self.invariant.kinds)))
    (get_or_default ats c.args.i 0 a (omega (arith, c.requires, ap (λ (x : Celled). length x.ends) c.self.view_is, long, c.self.invariant.moments))) in
    subst (λ (o : Option End). IfSome o (λ e. c.index.result.now ≡ e.vertex))
    (sym (ap (λ (l : List End). slice_get l c.args.i) (sym (ap (λ (x : Celled). x.ends) c.self.view_is)) ∙ here)) refl
