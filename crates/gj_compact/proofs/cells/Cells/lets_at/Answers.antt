use Rattle.std.proofs.Common.{◌≡◌, ℕ, List, length, get_or, slice_get, Option, IfSome, true, false, nat_le, refl, subst, ap, sym, ◌∙◌, arith}
use Rattle.std.proofs.lemmas.List.{get_or_default}
use Rattle.gj_base.specs.declared.kind.Kind.{Kind}
use Rattle.gj_base.specs.Kinds.{has_kind}
use Rattle.gj_compact.specs.declared.edge.End.{End}
use Rattle.gj_compact.specs.Blocks.{lets_through}
use Rattle.gj_compact.specs.Cells.{Celled}
use Rattle.gj_compact.proofs.CellLemmas.{length-joined, get-joined}
use Rattle.gj_compact.proofs.cells.Cells.lets_at.Goals as goal

pub index-requires : goal.index-requires
index-requires c =
    let long = length-joined c.self.inside.vertices.items _ _ c.self.invariant.kinds c.self.invariant.moments in
    omega (arith, c.requires, ap (λ (x : Celled). length x.ends) c.self.view_is, long, c.self.invariant.kinds, c.self.inside.kinds.ok)

pub index-requires-then-has : goal.index-requires-then-has
index-requires-then-has c =
    let long = length-joined c.self.inside.vertices.items _ _ c.self.invariant.kinds c.self.invariant.moments in
    omega (arith, c.requires, ap (λ (x : Celled). length x.ends) c.self.view_is, long, c.self.invariant.moments, c.self.inside.moments.ok)

pub returns-then-has : goal.returns-then-has
returns-then-has c =
    let vs = c.self.inside.vertices.items in
    let ks : List Kind = c.self.inside.kinds.items in
    let ats : List ℕ = c.self.inside.moments.items in
    let long = length-joined vs ks ats c.self.invariant.kinds c.self.invariant.moments in
    let v : ℕ = get_or vs c.args.i 0 in
    let k : Kind = c.index.result.now in
    let here = get-joined vs ks ats c.args.i v k c.index-then-has.result.now (omega (arith, c.requires, ap (λ (x : Celled). length x.ends) c.self.view_is))
    (get_or_default vs c.args.i 0 v (omega (arith, c.requires, ap (λ (x : Celled). length x.ends) c.self.view_is, long))) c.index.ensures c.index-then-has.ensures in
    let kind : has_kind c.args.mask k ≡ true = sym c.has.ensures ∙ c.if-has.true in
    subst (λ (o : Option End). IfSome o (λ e. nat_le c.not_before.result c.index-then-has.result.now ≡ lets_through c.args.mask e))
    (sym (ap (λ (l : List End). slice_get l c.args.i) (sym (ap (λ (x : Celled). x.ends) c.self.view_is)) ∙ here)) (rw (kind, c.not_before.ensures.exact) refl)

pub returns-else-has : goal.returns-else-has
returns-else-has c =
    let vs = c.self.inside.vertices.items in
    let ks : List Kind = c.self.inside.kinds.items in
    let ats : List ℕ = c.self.inside.moments.items in
    let long = length-joined vs ks ats c.self.invariant.kinds c.self.invariant.moments in
    let v : ℕ = get_or vs c.args.i 0 in
    let k : Kind = c.index.result.now in
    let a : ℕ = get_or ats c.args.i 0 in
    let here = get-joined vs ks ats c.args.i v k a (omega (arith, c.requires, ap (λ (x : Celled). length x.ends) c.self.view_is))
    (get_or_default vs c.args.i 0 v (omega (arith, c.requires, ap (λ (x : Celled). length x.ends) c.self.view_is, long))) c.index.ensures
    (get_or_default ats c.args.i 0 a (omega (arith, c.requires, ap (λ (x : Celled). length x.ends) c.self.view_is, long, c.self.invariant.moments))) in
    let kind : has_kind c.args.mask k ≡ false = sym c.has.ensures ∙ c.if-has.false in
    subst (λ (o : Option End). IfSome o (λ e. c.has.result ≡ lets_through c.args.mask e))
    (sym (ap (λ (l : List End). slice_get l c.args.i) (sym (ap (λ (x : Celled). x.ends) c.self.view_is)) ∙ here)) (rw (kind, c.if-has.false) refl)
