use Rattle.std.proofs.Common.{◌≡◌, ◌+◌, ◌∷◌, [], ℕ, List, ◌∙◌, ap, arith, length, length-append}
use Rattle.std.proofs.lemmas.List.{length-map}
use Rattle.gj_base.specs.declared.item.Entry.{Entry}
use Rattle.gj_base.specs.declared.item.Item.{Item}
use Rattle.gj_base.specs.History.{entries_by, extend, length_of}
use Rattle.gj_log.specs.Entered.{first_lot, history_of}
use Rattle.gj_log.proofs.Fronts.{history_more, lot_append}
use Rattle.gj_log.proofs.scribe.Scribe.enter.Goals as goal

pub returns-clause-added : goal.returns-clause-added
returns-clause-added g c =
    let es : List Entry = entries_by c.args.posting.now.by c.args.posting.now.items in
    ap history_of c.add.ensures.added ∙ (history_more c.self.inside.pages.0 (0, es) c.self.invariant.2 ∙ ap (λ v. extend v.history es) c.self.view_is)

pub invariant_of-self : goal.invariant_of-self
invariant_of-self g c =
    let es : List Entry = entries_by c.args.posting.now.by c.args.posting.now.items in
    let old : List (ℕ × List Entry) = c.self.inside.pages.0 in
    let now = ap history_of c.add.ensures.added ∙ history_more old (0, es) c.self.invariant.2 in
    let count : length es ≡ length c.args.posting.now.items = length-map c.args.posting.now.items (λ (x : Item). record { item = x; by = c.args.posting.now.by }) in
    let longer : length_of (history_of c.add.new.self.0) ≡ length_of (history_of old) + length es = ap length_of now ∙ omega (arith, length-append (history_of old).entries es) in
    let begun : length_of (history_of old) ≡ length_of c.args.self.now.history = ap (λ v. length_of v.history) c.self.view_is in
    let lots : length c.add.new.self.0 ≡ length old + 1 = ap length c.add.ensures.added ∙ omega (arith, length-append old ((0, es) ∷ [])) in (
      omega (arith, longer, count, c.len.ensures, c.self.invariant.0),
      omega (arith, begun, c.len.ensures, c.self.invariant.0, c.requires.room),
      omega (arith, lots),
    )

pub returns-clause-same : goal.returns-clause-same
returns-clause-same g c =
    let es : List Entry = entries_by c.args.posting.now.by c.args.posting.now.items in
    ap first_lot c.add.ensures.added ∙ (lot_append c.self.inside.pages.0 (0, es) c.self.invariant.2 ∙ ap (λ v. v.opening) c.self.view_is)
