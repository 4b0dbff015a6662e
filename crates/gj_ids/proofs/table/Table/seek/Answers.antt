use Rattle.std.proofs.Common.{◌≡◌, ℕ, ◌<◌, length, get_or, inl, inr, sym, ap, subst, ◌∙◌}
use Rattle.std.proofs.lemmas.List.{get_or_default}
use Rattle.gj_ids.specs.declared.table.Slot.{Slot}
use Rattle.gj_ids.specs.Slots.{blank, stamp_at, place_at}
use Rattle.gj_base.proofs.FirstLemmas.{place_of-at, place_of-none}
use Rattle.gj_ids.proofs.Probing.{absent_at_free, way_used}
use Rattle.gj_ids.proofs.table.Table.seek.Goals as goal

-- the slot is in use, so it holds the identifier, whose place is the only one
pub returns-then-slot-self : goal.returns-then-slot-self
returns-then-slot-self c =
    let slots = c.args.self.now.slots.items in
    let at = c.stop-at.result in
    let ids = c.args.ids.now in
    let slot = c.index-slot.result.now in
    let read : get_or slots at blank ≡ slot =
    get_or_default slots at blank slot c.stop-at.ensures.inside ∙ sym c.index-slot.ensures
    in
    let used : stamp_at slots at ≡ c.args.self.now.stamp = ap (λ (s : Slot). s.stamp) read ∙ c.if-slot-self.true in
    let place : place_at slots at ≡ slot.place = ap (λ (s : Slot). s.place) read in
    let below : slot.place < length ids =
    subst (λ (p : ℕ). p < length ids) place (c.requires.table.placed at c.stop-at.ensures.inside used)
    in
    elim c.stop-at.ensures.stop [
      | inl free ↦ absurd (free used)
      | inr here ↦ place_of-at ids c.args.id slot.place c.requires.table.distinct below
          (ap (λ (p : ℕ). get_or ids p 0) (sym place) ∙ here)
    ]

-- the slot is free, and no slot on the way to it holds the identifier
pub returns-else-slot-self : goal.returns-else-slot-self
returns-else-slot-self c =
    let slots = c.args.self.now.slots.items in
    let at = c.stop-at.result in
    let slot = c.index-slot.result.now in
    let read : get_or slots at blank ≡ slot =
    get_or_default slots at blank slot c.stop-at.ensures.inside ∙ sym c.index-slot.ensures
    in
    let free = λ (used : stamp_at slots at ≡ c.args.self.now.stamp).
    c.if-slot-self.false (ap (λ (s : Slot). s.stamp) (sym read) ∙ used)
    in
    let absent = absent_at_free slots c.args.self.now.stamp c.args.self.now.shift c.args.ids.now c.args.id at
    c.requires.table c.stop-at.ensures.inside free c.stop-at.ensures.way
    in (
      place_of-none c.args.ids.now c.args.id absent,
      record {
        inside = c.stop-at.ensures.inside;
        free = free;
        way = way_used _ _ _ _ _ _ _ c.stop-at.ensures.way;
      },
    )
