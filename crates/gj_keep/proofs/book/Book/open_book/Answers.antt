use Rattle.std.proofs.Common.{◌≡◌, ℕ, ◌+◌, ◌∙◌, List, length, ap, sym, subst, get_or, arith}
use Rattle.std.specs.Bool.{IsTrue}
use Rattle.gj_base.specs.declared.keeper.KeptItem.{KeptItem}
use Rattle.gj_keep.specs.Rows.{first_place, opened}
use Rattle.gj_keep.specs.Books.{BookKeeps, IsStore}
use Rattle.gj_keep.specs.Openings.{Shows}
use Rattle.gj_keep.proofs.StoreLemmas.{sound_of, sound_end}
use Rattle.gj_keep.proofs.OpeningLemmas.{keeps_again, keeps_left, keeps_read, plain_again, shows_again, store_opened}
use Rattle.gj_keep.proofs.book.Book.open_book.Goals as goal

pub invariant_of-book : goal.invariant_of-book
invariant_of-book g c =
    let rows : List KeptItem = c.in-Ok.rows.items in
    let value : c.deref-in-Ok-graphs_of.result.now ≡ rows = c.deref-in-Ok-graphs_of.ensures.value in
    let first : c.first_of-first.result ≡ first_place rows = c.first_of-first.ensures ∙ ap first_place value in
    let count : c.len.result ≡ length rows = c.len.ensures ∙ (sym c.deref-in-Ok-graphs_of.ensures.len ∙ ap length value) in
    let end = sound_end c.args.conf rows (sound_of c.args.conf rows c.in-Ok.ensures.good) in
    let P : ℕ → Type 0 = λ p. IsStore c.args.conf p (c.first_of-first.result + c.len.result) (g.K.Keeper.kept c.read_rows.new.keeper) in record {
      bounded = omega arith;
      store = λ tells.
          let told : IsTrue (g.K.Keeper.kept c.args.keeper).tells = subst IsTrue c.in-Ok.ensures.ok.tells tells in
          subst P (sym first) (store_opened c.args.conf _ _ rows _ told c.in-Ok.ensures.ok (c.in-Ok.ensures.suited told) (c.in-Ok.ensures.told told) c.in-Ok.ensures.good (omega arith));
    }

pub returns-clause-keeps : goal.returns-clause-keeps
returns-clause-keeps g c =
    let rows : List KeptItem = c.in-Ok.rows.items in
    let value : c.deref-in-Ok-graphs_of.result.now ≡ rows = c.deref-in-Ok-graphs_of.ensures.value in
    let first : c.first_of-first.result ≡ first_place rows = c.first_of-first.ensures ∙ ap first_place value in
    let count : c.len.result ≡ length rows = c.len.ensures ∙ (sym c.deref-in-Ok-graphs_of.ensures.len ∙ ap length value) in
    let read : c.of.result.value.items ≡ rows = ap (λ v. v.items) c.of.ensures in
    let P : List KeptItem → Type 0 = λ rs. BookKeeps (record { conf = c.args.conf; first = c.first_of-first.result; length = c.first_of-first.result + c.len.result; kept = g.K.Keeper.kept c.read_rows.new.keeper; faults = g.K.Keeper.faults c.read_rows.new.keeper; steady = g.K.Keeper.steady c.read_rows.new.keeper }) (opened rs) in
    subst P (sym read) (keeps_read c.args.conf _ _ rows _ _ _ _ c.in-Ok.ensures.ok c.in-Ok.ensures.told c.in-Ok.ensures.good first (omega arith))

pub returns-clause-again : goal.returns-clause-again
returns-clause-again g c h tells keeps =
    let rows : List KeptItem = c.in-Ok.rows.items in
    let value : c.deref-in-Ok-graphs_of.result.now ≡ rows = c.deref-in-Ok-graphs_of.ensures.value in
    let first : c.first_of-first.result ≡ first_place rows = c.first_of-first.ensures ∙ ap first_place value in
    let count : c.len.result ≡ length rows = c.len.ensures ∙ (sym c.deref-in-Ok-graphs_of.ensures.len ∙ ap length value) in
    let some = c.room-room.ensures.conf.segments_low in (
      keeps_again c.args.conf _ _ rows _ _ _ _ h some c.in-Ok.ensures.ok (keeps tells) (c.in-Ok.ensures.told tells) first (omega arith),
      (λ i d low.
          let shows : Shows (g.W.Graph.shown (get_or c.in-Ok-graphs_of.graphs.items i d)) c.args.conf (opened rows) =
          subst (λ rs. Shows (g.W.Graph.shown (get_or c.in-Ok-graphs_of.graphs.items i d)) c.args.conf (opened rs)) c.deref.ensures.value (c.in-Ok-graphs_of.ensures.each i d low) in
          shows_again _ c.args.conf _ rows h some (keeps tells) (c.in-Ok.ensures.told tells) shows),
    )

pub returns-in-Err-clause-again_err : goal.returns-in-Err-clause-again_err
returns-in-Err-clause-again_err g c h tells keeps = (
  keeps_left c.args.conf _ _ h c.in-Err.ensures.err keeps,
  plain_again c.args.conf _ h _ (keeps tells) (c.in-Err.ensures.refused tells),
)
