use Rattle.std.proofs.Common.{sym, ap, subst, arith}
use Rattle.std.specs.Bool.{IsTrue}
use Rattle.gj_keep.specs.Books.{BookKeeps}
use Rattle.gj_keep.proofs.BookLemmas.{keeps_append, store_longer}
use Rattle.gj_keep.proofs.book.Book.append.Goals as goal

pub returns-clause-ok : goal.returns-clause-ok
returns-clause-ok g c h by k =
    let done = c.in_ok-append.ensures in
    keeps_append _ _ _ _ _ _ _ _ _ h by c.args.items.now c.room-room.ensures.conf done.kind.0 done.ok (subst (λ v. BookKeeps v h) (sym c.self.view_is) k)

pub invariant_of-self-2 : goal.invariant_of-self-2
invariant_of-self-2 g c =
    let done = c.in_ok-append.ensures in
    let room = c.requires.room in
    let size = ap (λ v. v.length) c.self.view_is in record {
      bounded = omega arith;
      store = λ tells.
          let told : IsTrue (g.K.Keeper.kept c.self.inside.keeper).tells = subst IsTrue done.kind.0 tells in
          store_longer _ _ _ _ _ c.args.items.now c.room-room.ensures.conf (c.self.invariant.store told) c.numbers_in.ensures (omega arith) (done.ok told);
    }
