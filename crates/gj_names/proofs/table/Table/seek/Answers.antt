use Rattle.std.proofs.Common.{◌≡◌, ℕ, ◌<◌, length, get_or, inl, inr, sym, ap, subst, ◌∙◌}
use Rattle.std.proofs.lemmas.List.{get_or_default}
use Rattle.gj_names.specs.declared.table.TheConstants.{FREE}
use Rattle.gj_names.specs.Slots.{place_at}
use Rattle.gj_base.proofs.FirstLemmas.{place_of-at, place_of-none}
use Rattle.gj_names.proofs.Probing.{absent_at_free, way_used}
use Rattle.gj_names.proofs.table.Table.seek.Goals as goal

-- the slot is free, and no slot on the way to it holds the identifier
pub returns-then-place : goal.returns-then-place
returns-then-place c =
    let slots = c.args.self.now.slots.items in
    let at = c.stop-at.result in
    let place = c.index-place.result.now in
    let free : place_at slots at ≡ FREE =
    get_or_default slots at FREE place c.stop-at.ensures.inside ∙ (sym c.index-place.ensures ∙ c.if-place.true)
    in
    let absent = absent_at_free slots c.args.self.now.shift c.args.ids.now c.args.id at
    c.requires.table c.stop-at.ensures.inside free c.stop-at.ensures.way
    in (
      place_of-none c.args.ids.now c.args.id absent,
      record {
        inside = c.stop-at.ensures.inside;
        free = free;
        way = way_used _ _ _ _ _ _ c.stop-at.ensures.way;
      },
    )

-- the slot is in use, so it holds the identifier, whose place is the only one
pub returns-else-place : goal.returns-else-place
returns-else-place c =
    let slots = c.args.self.now.slots.items in
    let at = c.stop-at.result in
    let ids = c.args.ids.now in
    let place = c.index-place.result.now in
    let read : place_at slots at ≡ place =
    get_or_default slots at FREE place c.stop-at.ensures.inside ∙ sym c.index-place.ensures
    in
    let used = λ (none : place_at slots at ≡ FREE). c.if-place.false (sym read ∙ none) in
    let below : place < length ids =
    subst (λ (p : ℕ). p < length ids) read (c.requires.table.placed at c.stop-at.ensures.inside used)
    in
    elim c.stop-at.ensures.stop [
      | inl free ↦ absurd (used free)
      | inr here ↦ place_of-at ids c.args.id place c.requires.table.distinct below
          (ap (λ (p : ℕ). get_or ids p 0) (sym read) ∙ here)
    ]
