use Rattle.std.proofs.Common.{◌≡◌}
use Rattle.gj_base.specs.History.{Begins}
use Rattle.gj_publish_uses.proofs.locked.looks_on.Given as goal

abbrev pub invariant-loop-look : goal.invariant-loop-look
invariant-loop-look g l = Begins l.fn.seat.front l.seat.front × (l.seat.number ≡ l.fn.seat.number) × (l.seat.posted ≡ l.fn.seat.posted)
