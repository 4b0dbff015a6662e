use Rattle.std.proofs.Common.{◌≡◌, ◌+◌, ◌<◌, ℕ, length, slice_index_or}
use Rattle.gj_publish.specs.Seats.{SeatView, no_numbers}
use Rattle.gj_publish.proofs.opening.seated.Given as goal

abbrev pub invariant-loop-number : goal.invariant-loop-number
invariant-loop-number g l =
    (l.share.parts + length l.seats.items ≡ l.places) × (l.share.amount ≡ 0) × (length l.seats.items + 1 ≡ l.number) × (l.grants ≡ l.fn.grants)
    × ((i : ℕ) (d : SeatView) → i < length l.seats.items → slice_index_or l.seats.items i d ≡ record { number = i + 1; front = l.fn.front; posted = 0; numbers = no_numbers })
