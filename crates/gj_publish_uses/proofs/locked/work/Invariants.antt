use Rattle.std.proofs.Common.{◌≡◌}
use Rattle.gj_base.specs.History.{Begins}
use Rattle.gj_publish_uses.proofs.locked.work.Given as goal

abbrev pub invariant-loop-turn : goal.invariant-loop-turn
invariant-loop-turn g l = Begins l.fn.desk.seat.front l.desk.seat.front × (l.desk.seat.number ≡ l.fn.desk.seat.number)
