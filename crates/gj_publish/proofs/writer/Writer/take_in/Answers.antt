use Rattle.std.proofs.Common.{◌≡◌, ℕ, ◌+◌, ◌-◌, List, length, slice_index_or, slice_set, sym, ap, ◌∙◌, subst, arith, Some}
use Rattle.gj_base.specs.declared.item.Item.{Item}
use Rattle.gj_base.specs.declared.history.History.{History}
use Rattle.gj_base.specs.History.{entries_by, extend}
use Rattle.gj_keep.specs.Books.{BookKeeps}
use Rattle.gj_publish.specs.Writers.{AreWithin, IsOwed, IsGrown, IsCounted}
use Rattle.gj_publish.proofs.Counting.{counted_more}
use Rattle.gj_publish.proofs.Growing.{grown_more, within_more}
use Rattle.gj_publish.proofs.writer.Writer.take_in.Goals as goal

pub invariant_of-self-2 : goal.invariant_of-self-2
invariant_of-self-2 g c =
    let s = c.self.inside in
    let h : History = s.scribe.history in
    let now : History = c.enter-2.new.self.history in
    let k : ℕ = c.number-number.result in
    let xs : List Item = c.args.items in
    let is = c.self.invariant in
    let added : now ≡ extend h (entries_by k xs) = c.enter-2.ensures.added in
    let same : s.shown ≡ h = ap (λ v. v.published) c.self.view_is ∙ (c.requires.shown ∙ sym (ap (λ v. v.accepted) c.self.view_is)) in
    let owed : IsOwed s.shown now (Some c.new.result) = record {
      all = added ∙ (λ i. extend (sym same i) (entries_by (sym c.new.ensures.0 i) (sym c.new.ensures.1 i)));
      between = (c.new.ensures.2 ∙ c.again-before.ensures, c.new.ensures.3 ∙ c.front-after.ensures);
    } in
    let kept : BookKeeps c.keep.new.self (extend h (entries_by k c.as_slice.result.now)) = c.in_ok-keep.ensures.ok h k is.4.keeps in
    let keeps : BookKeeps c.keep.new.self now = subst (BookKeeps c.keep.new.self) (ap (λ (ys : List Item). extend h (entries_by k ys)) c.as_slice.ensures ∙ sym added) kept in
    let sum : c.enter.new.ledger.total ≡ s.ledger.total + length xs = c.enter.ensures.ledger ∙ ap (λ n. s.ledger.total + n) c.len-count.ensures in
    let grown : IsGrown g.J.Opening.opening g.J.Opening.conf s.start c.enter.new.ledger.total c.keep.new.self c.enter-2.new.self.opening now =
    subst (λ (o : History). IsGrown g.J.Opening.opening g.J.Opening.conf s.start c.enter.new.ledger.total c.keep.new.self o now) (sym c.enter-2.ensures.same)
    (grown_more g.J.Opening.opening g.J.Opening.conf s.start s.ledger.total c.enter.new.ledger.total s.book c.keep.new.self s.scribe.opening h now k xs is.4 keeps c.in_ok-keep.ensures.same sum added) in
    let low = c.number-number.ensures.in_range.0 in
    let high = c.number-number.ensures.in_range.1 in
    let one : k - 1 + 1 ≡ k = omega arith in
    let raw = counted_more (k - 1) g.J.Opening.places s.counted h xs is.5 (omega arith) in
    let there : slice_set s.counted (k - 1) (slice_index_or s.counted (k - 1) 0 + length xs) ≡ c.add.new.self =
    ap (λ n. slice_set s.counted (k - 1) (slice_index_or s.counted (k - 1) 0 + n)) (sym c.len-count.ensures) ∙ sym c.add.ensures in
    let entered : extend h (entries_by (k - 1 + 1) xs) ≡ now = ap (λ n. extend h (entries_by n xs)) one ∙ sym added in
    let counted : IsCounted g.J.Opening.places c.add.new.self now = subst (λ (z : List ℕ × History). IsCounted g.J.Opening.places z.0 z.1) (λ i. (there i, entered i)) raw in
    let within : AreWithin s.once now = within_more s.once h now k xs added is.6 in
    (is.0, is.1, is.2, owed, grown, counted, within)
