use Rattle.std.proofs.Common.{◌<◌, ◌^◌, ◌∙◌, ℕ, get_or, subst, below_more}
use Rattle.std.proofs.lemmas.List.{get_or_default}
use Rattle.gj_base.specs.declared.item.Item.{Item}
use Rattle.gj_keep.proofs.book.numbers_in.Goals as goal

abbrev Numbers : Item → Type 0
Numbers x = (x.user < 2 ^ 63) × (x.post < 2 ^ 63) × (x.at < 2 ^ 63)

pub loop-item-preserved : goal.loop-item-preserved
loop-item-preserved c k d high =
    below_more (λ (m : ℕ). (e : Item) → Numbers (get_or c.args.items.now m e)) c.loop-item.item-index
    (λ m low e. c.loop-item.invariant m e low)
    (λ e. subst Numbers (c.item-item.is ∙ get_or_default c.args.items.now c.loop-item.item-index c.item-item.result e c.loop-item-test.true) c.numbers_of.ensures) k high d
