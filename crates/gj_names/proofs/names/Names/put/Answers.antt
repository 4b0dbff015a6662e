use Rattle.std.proofs.Common.{◌≡◌, ◌<◌, ℕ, List, Some, None, length, arith, ap, subst, ◌∙◌, length-append}
use Rattle.gj_base.specs.Firsts.{place_of, HasNoRepeat}
use Rattle.gj_names.specs.Named.{Named}
use Rattle.gj_names.proofs.Seating.{grows, put_distinct, put_place}
use Rattle.gj_names.proofs.names.Names.put.Goals as goal

absent : (c : goal.After-deref-in-Free) → place_of c.self.inside.ids.items c.args.id ≡ None
absent c = rw c.deref.ensures.value at c.in-Free.ensures.0

distinct : (c : goal.After-deref-in-Free) → HasNoRepeat c.push_reserved.new.self.items
distinct c =
    put_distinct c.self.inside.ids.items _ c.args.id c.push_reserved.ensures.items c.self.invariant.table.distinct (absent c)

spare : (c : goal.After-deref-in-Free) → length c.self.inside.ids.items < c.self.inside.room
spare c =
    let shown = c.self.view_is in
    let ids = ap (λ (n : Named). n.ids) shown in
    let room = ap (λ (n : Named). n.room) shown in
    let fits = c.requires (subst (λ (l : List ℕ). place_of l c.args.id ≡ None) ids (absent c)) in
    omega (arith, fits, room, ap (λ (l : List ℕ). length l) ids)

pub seat_next-requires-clause-distinct : goal.seat_next-requires-clause-distinct
seat_next-requires-clause-distinct c = rw c.deref-in-Free.ensures.value (distinct c)

pub seat_next-requires-clause-room : goal.seat_next-requires-clause-room
seat_next-requires-clause-room c short =
    let table = c.self.invariant.table in
    let more = ap (λ (l : List ℕ). length l) (c.deref-in-Free.ensures.value ∙ c.push_reserved.ensures.items) in
    grows (length c.self.inside.table.slots.items) c.self.inside.table.shift _ c.self.inside.room table.sized.whole c.self.invariant.reserved
    (omega (arith, short, more, spare c, length-append {A = ℕ}))

pub returns-in-Free-clause-place : goal.returns-in-Free-clause-place
returns-in-Free-clause-place c =
    let count : length c.self.inside.ids.items ≡ c.len-place.result = omega arith in
    let none : place_of c.self.inside.ids.items c.args.id ≡ None = rw c.deref.ensures.value at c.in-Free.ensures.0 in
    let apart = put_distinct c.self.inside.ids.items _ c.args.id c.push_reserved.ensures.items c.self.invariant.table.distinct none in
    subst (λ (n : ℕ). place_of c.push_reserved.new.self.items c.args.id ≡ Some n) count
    (put_place c.self.inside.ids.items _ c.args.id c.push_reserved.ensures.items apart)
