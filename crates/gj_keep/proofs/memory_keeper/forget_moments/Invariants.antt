use Rattle.std.proofs.Common.{◌≡◌, ◌++◌, take, drop, map}
use Rattle.gj_base.specs.Kept.{without_moment}
use Rattle.gj_keep.proofs.memory_keeper.forget_moments.Given as goal

abbrev pub invariant-loop-row : goal.invariant-loop-row
invariant-loop-row l = l.rows ≡ map without_moment (take l.row-index l.initial.rows) ++ drop l.row-index l.initial.rows
