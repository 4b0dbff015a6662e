use Rattle.std.proofs.Common.{ℕ, ◌<◌, ◌≤◌}
use Rattle.gj_ids.specs.Slots.{IsOther}
use Rattle.gj_ids.proofs.table.Table.scan.Given as goal

abbrev pub invariant-loop-at : goal.invariant-loop-at
invariant-loop-at l =
    (j : ℕ) → l.from ≤ j → j < l.at → IsOther l.self.slots.items l.self.stamp l.ids l.id j
