use Rattle.std.proofs.Common.{◌≡◌, ◌<◌, ◌+◌, ℕ, List, None, length, take, set, rules, arith, ap, subst, ◌∙◌, length-set}
use Rattle.std.proofs.lemmas.List.{length-take-le}
use Rattle.gj_base.specs.Firsts.{place_of}
use Rattle.gj_ids.specs.Numbering.{Numbering}
use Rattle.gj_ids.specs.declared.table.Slot.{Slot}
use Rattle.gj_ids.specs.Slots.{IsTable}
use Rattle.gj_ids.proofs.Putting.{table_put, place_put}
use Rattle.gj_ids.proofs.id_map.IdMap.put.Goals as goal

absent : (c : goal.After-self-in-Free-1) → place_of (take c.self.inside.len c.self.inside.ids.items) c.args.id ≡ None
absent c = rw c.deref.ensures.value at c.in-Free.ensures.0

spare : (c : goal.After-self-in-Free-1) → c.self.inside.len < c.self.inside.room
spare c =
    let shown = c.self.view_is in
    let ids = ap (λ (n : Numbering). n.ids) shown in
    let room = ap (λ (n : Numbering). n.room) shown in
    let size : length (take c.self.inside.len c.self.inside.ids.items) ≡ c.self.inside.len =
    length-take-le c.self.inside.len c.self.inside.ids.items (omega arith)
    in
    let fits = c.requires (subst (λ (l : List ℕ). place_of l c.args.id ≡ None) ids (absent c)) in
    omega (arith, fits, size, room, ap (λ (l : List ℕ). length l) ids)

below : (c : goal.After-self-in-Free-1) → c.self.inside.len < length c.self.inside.ids.items
below c = omega (arith, spare c)

size : (c : goal.After-self-in-Free-1) → length c.seat.new.self.slots.items ≡ length c.self.inside.table.slots.items
size c = ap (λ (l : List Slot). length l) c.seat.ensures.slots ∙ simp length-set

table : (c : goal.After-self-in-Free-1) → IsTable c.seat.new.self.slots.items c.seat.new.self.stamp c.seat.new.self.shift (take (c.self.inside.len + 1) (set c.self.inside.ids.items c.self.inside.len c.args.id))
table c =
    table_put c.self.inside.ids.items c.self.inside.len c.args.id c.in-Free.at _ _ _ _ _ _ (below c)
    c.self.invariant.table (absent c) c.in-Free.ensures.1 c.seat.ensures.slots c.seat.ensures.stamp c.seat.ensures.shift

pub invariant_of-self : goal.invariant_of-self
invariant_of-self c = record {
  any = c.self.invariant.any;
  fits = c.self.invariant.fits;
  within = omega (arith, spare c);
  held = search rules;
  enough = omega (arith, size c);
  least = omega (arith, size c);
  table = table c;
}

pub returns-in-Free-clause-place : goal.returns-in-Free-clause-place
returns-in-Free-clause-place c = place_put _ _ c.args.id (below c) (table c).distinct

pub returns-in-Free-clause-lawful : goal.returns-in-Free-clause-lawful
returns-in-Free-clause-lawful c =
    let more = length-take-le (c.self.inside.len + 1) (set c.self.inside.ids.items c.self.inside.len c.args.id)
    (rw length-set (omega (arith, below c)))
    in
    record {
      any = c.self.invariant.any;
      fits = c.self.invariant.fits;
      within = omega (arith, spare c, more);
      distinct = (table c).distinct;
    }
