use Rattle.std.proofs.Common.{◌<◌, ◌^◌, ℕ, get_or}
use Rattle.gj_base.specs.declared.item.Item.{Item}
use Rattle.gj_keep.proofs.book.numbers_in.Given as goal

abbrev pub invariant-loop-item : goal.invariant-loop-item
invariant-loop-item l =
    (k : ℕ) (d : Item) → k < l.item-index → ((get_or l.items k d).user < 2 ^ 63) × ((get_or l.items k d).post < 2 ^ 63) × ((get_or l.items k d).at < 2 ^ 63)
