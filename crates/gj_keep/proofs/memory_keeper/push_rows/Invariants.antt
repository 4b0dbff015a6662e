use Rattle.std.proofs.Common.{◌≡◌, ◌++◌, take}
use Rattle.gj_base.specs.Kept.{placed}
use Rattle.gj_keep.proofs.memory_keeper.push_rows.Given as goal

abbrev pub invariant-loop-i : goal.invariant-loop-i
invariant-loop-i l = l.rows.items ≡ l.initial.rows.items ++ placed l.from (take l.i l.items)
