use Rattle.std.proofs.Common.{◌≡◌, length}
use Rattle.gj_index_uses.proofs.pool_tests.push_all.Given as goal

abbrev pub invariant-loop-cell : goal.invariant-loop-cell
invariant-loop-cell g l = length l.pool.lists ≡ length l.initial.pool.lists
