use Rattle.std.proofs.Common.{◌≡◌, length}
use Rattle.gj_index_uses.proofs.pool_tests.vertices_that_take_turns_keep_their_own_cells.Given as goal

abbrev pub invariant-loop-round : goal.invariant-loop-round
invariant-loop-round g l = length l.pool.lists ≡ 2

abbrev pub invariant-loop-cell : goal.invariant-loop-cell
invariant-loop-cell g l = length l.pool.lists ≡ 2
