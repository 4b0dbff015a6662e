use Rattle.std.proofs.Common.{◌≡◌, ◌+◌, ℕ, List, set, take, subst, ap, arith, ◌∙◌}
use Rattle.std.proofs.Math.Seq.{take-length}
use Rattle.gj_names.specs.Slots.{IsTable}
use Rattle.gj_names.proofs.Seating.{next_seated}
use Rattle.gj_names.proofs.table.Table.seat_next.Goals as goal

pub returns-else-len-ids-clause-table : goal.returns-else-len-ids-clause-table
returns-else-len-ids-clause-table c =
    let ids = c.args.ids.now in
    let slots = c.args.self.now.slots.items in
    let shift = c.args.self.now.shift in
    let seated = next_seated slots shift ids c.args.place c.args.at c.requires.table (omega (arith, c.requires.last)) c.requires.few c.requires.distinct c.requires.free in
    let whole : take (c.args.place + 1) ids ≡ ids = ap (λ (n : ℕ). take n ids) c.requires.last ∙ take-length ids in
    subst (λ (l : List ℕ). IsTable (set slots c.args.at c.args.place) shift l) whole seated
