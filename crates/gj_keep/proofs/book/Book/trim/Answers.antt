use Rattle.std.proofs.Common.{◌≡◌, sym, subst, arith}
use Rattle.std.specs.Bool.{IsTrue}
use Rattle.gj_base.specs.Kept.{with_rows}
use Rattle.gj_keep.specs.Books.{BookView, BookKeeps, trimmed}
use Rattle.gj_keep.proofs.BookLemmas.{keeps_trim, store_trimmed, nothing_trimmed, trim_rows}
use Rattle.gj_keep.proofs.book.Book.trim.Goals as goal

pub returns-then-at-self-clause-ok : goal.returns-then-at-self-clause-ok
returns-then-at-self-clause-ok g c =
    let P : BookView → Type 0 = λ v. IsTrue v.kept.tells → v.kept ≡ with_rows v.kept (trimmed v.conf v.length v.kept.rows) in
    subst P c.self.view_is (λ told. nothing_trimmed _ _ _ _ (c.self.invariant.store told) (omega (arith, c.base-at.ensures.exact)))

pub invariant_of-self-2 : goal.invariant_of-self-2
invariant_of-self-2 g c =
    let done = c.in_ok-trim.ensures in record {
      bounded = c.self.invariant.bounded;
      store = λ tells.
          let told : IsTrue (g.K.Keeper.kept c.self.inside.keeper).tells = subst IsTrue done.kind.0 tells in
          store_trimmed _ _ _ _ _ _ c.base-at.ensures.in_range (c.self.invariant.store told) c.base-at.ensures.exact (omega arith) (done.ok told);
    }

pub returns-clause-keeps : goal.returns-clause-keeps
returns-clause-keeps g c h k =
    let done = c.in_ok-trim.ensures in
    keeps_trim _ _ _ _ _ _ _ _ _ _ h c.base-at.ensures.in_range c.self.invariant.store c.base-at.ensures.exact (omega arith) done.kind.0 done.ok (subst (λ v. BookKeeps v h) (sym c.self.view_is) k)

pub returns-clause-ok : goal.returns-clause-ok
returns-clause-ok g c =
    let done = c.in_ok-trim.ensures in
    let P : BookView → Type 0 = λ v. IsTrue v.kept.tells → g.K.Keeper.kept c.trim.new.self ≡ with_rows v.kept (trimmed v.conf v.length v.kept.rows) in
    subst P c.self.view_is (λ told. trim_rows c.self.inside.conf c.self.inside.length c.base-at.result _ _ c.base-at.ensures.exact (done.ok told))
