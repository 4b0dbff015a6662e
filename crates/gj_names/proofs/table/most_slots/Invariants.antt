use Rattle.std.proofs.Common.{◌≡◌, ℕ, ◌*◌, ◌^◌, ◌-◌, ◌≤◌}
use Rattle.gj_names.proofs.table.most_slots.Given as goal

abbrev pub invariant-loop-size : goal.invariant-loop-size
invariant-loop-size l = record {
  whole : (shift : ℕ) × (l.size * 2 ^ shift ≡ 2 ^ 64);
  least : 16 ≤ l.size;
  most : l.size ≤ 33554432;
}

abbrev pub decreases-loop-size : goal.decreases-loop-size
decreases-loop-size l = 2 * l.room - l.size
