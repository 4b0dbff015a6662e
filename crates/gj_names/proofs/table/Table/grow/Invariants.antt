use Rattle.std.proofs.Common.{◌≡◌, ◌≤◌, length, take, vec_capacity}
use Rattle.gj_names.specs.Slots.{IsTable}
use Rattle.gj_names.proofs.table.Table.grow.Given as goal

abbrev pub invariant-loop-place : goal.invariant-loop-place
invariant-loop-place l = record {
  table : IsTable l.self.slots.items l.self.shift (take l.place l.ids);
  size : length l.self.slots.items ≡ l.size;
  capacity : vec_capacity l.fn.self.slots ≤ vec_capacity l.self.slots;
}
