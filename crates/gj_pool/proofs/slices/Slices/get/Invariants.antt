use Rattle.std.proofs.Common.{◌≡◌, ◌-◌}
use Rattle.gj_pool.specs.Slices.{array_of, slice_size, slice_start}
use Rattle.gj_pool.proofs.slices.Slices.get.Given as goal

abbrev pub invariant-loop-link : goal.invariant-loop-link
invariant-loop-link l = record {
  start : l.start ≡ slice_start (array_of l.self-inside.cells.items l.self-inside.room) l.initial.start (l.link - 1);
  size : l.size ≡ slice_size (l.link - 1);
}
