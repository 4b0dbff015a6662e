use Rattle.std.proofs.Common.{◌≡◌, ◌≤◌, take, vec_capacity}
use Rattle.gj_directory.proofs.half.copy_ids.Given as goal

abbrev pub invariant-loop-v : goal.invariant-loop-v
invariant-loop-v l = record {
  ids : l.ids.items ≡ take l.v l.names.ids;
  capacity : vec_capacity l.fn.ids ≤ vec_capacity l.ids;
}
