use Rattle.std.proofs.Common.{◌≡◌, ◌+◌, length}
use Rattle.gj_publish_uses.proofs.day.worked.Given as goal

abbrev pub invariant-loop-seat : goal.invariant-loop-seat
invariant-loop-seat g l = length l.seats.items + length l.desks.items ≡ length l.fn.seats.items

abbrev pub decreases-loop-seat : goal.decreases-loop-seat
decreases-loop-seat g l = length l.seats.items

abbrev pub invariant-loop-desk : goal.invariant-loop-desk
invariant-loop-desk g l = length l.seats.items + length l.desks.items ≡ length l.fn.seats.items

abbrev pub decreases-loop-desk : goal.decreases-loop-desk
decreases-loop-desk g l = length l.desks.items
