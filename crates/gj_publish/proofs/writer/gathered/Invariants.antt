use Rattle.std.proofs.Common.{◌≡◌, ◌+◌, length}
use Rattle.std.specs.List.{sum_by}
use Rattle.gj_publish.specs.Seats.{SeatView}
use Rattle.gj_publish.proofs.writer.gathered.Given as goal

abbrev pub invariant-loop-seat : goal.invariant-loop-seat
invariant-loop-seat g l = (l.all.amount + sum_by (λ (s : SeatView). s.posted) l.seats.items ≡ sum_by (λ (s : SeatView). s.posted) l.fn.seats.items) × (l.all.parts + length l.seats.items ≡ length l.fn.seats.items)

abbrev pub decreases-loop-seat : goal.decreases-loop-seat
decreases-loop-seat g l = length l.seats.items
