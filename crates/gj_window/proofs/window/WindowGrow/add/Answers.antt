use Rattle.std.proofs.Common.{◌≡◌, ◌+◌, ◌∙◌, ◌++◌, [], ◌∷◌, ℕ, drop, ap, sym}
use Rattle.gj_window.specs.Segments.{items_of}
use Rattle.gj_window.proofs.WindowLemmas.{added, added_is}
use Rattle.gj_window.proofs.window.WindowGrow.add.Goals as goal

pub invariant_of-self : goal.invariant_of-self
invariant_of-self c =
    let w = c.args.self.now in
    let items = c.add.ensures.items ∙ ap (λ (k : ℕ). drop k (items_of w.segments) ++ c.args.item ∷ []) (sym c.from.ensures) in
    record { window = added_is w.first c.from.result c.add.new.self w.segments c.args.item w.window (c.from.ensures ∙ c.add.ensures.exact) c.add.ensures.conf items c.requires }

pub returns : goal.returns
returns c =
    let w = c.args.self.now in
    let items = c.add.ensures.items ∙ ap (λ (k : ℕ). drop k (items_of w.segments) ++ c.args.item ∷ []) (sym c.from.ensures) in
    added w.first c.from.result c.add.new.self w.segments c.args.item w.window (c.from.ensures ∙ c.add.ensures.exact) c.add.ensures.conf items
