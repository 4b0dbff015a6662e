use Rattle.std.proofs.Common.{◌≡◌, ◌*◌, ◌^◌, ◌-◌, ◌<◌, ◌≤◌}
use Rattle.gj_ids.proofs.table.Table.new.Given as goal

abbrev pub invariant-loop-size : goal.invariant-loop-size
invariant-loop-size l = record {
  whole : l.size * 2 ^ l.shift ≡ 2 ^ 64;
  least : l.size < 4 * l.room;
  some : 2 ≤ l.size;
  shifted : l.shift < 64;
}

abbrev pub decreases-loop-size : goal.decreases-loop-size
decreases-loop-size l = 2 * l.room - l.size
