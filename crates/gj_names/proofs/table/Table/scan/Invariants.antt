use Rattle.std.proofs.Common.{ℕ, ◌<◌, ◌≤◌}
use Rattle.gj_names.specs.Slots.{IsOther}
use Rattle.gj_names.proofs.table.Table.scan.Given as goal

abbrev pub invariant-loop-at : goal.invariant-loop-at
invariant-loop-at l =
    (j : ℕ) → l.from ≤ j → j < l.at → IsOther l.self.slots.items l.ids l.id j
