use Rattle.std.proofs.Common.{◌≡◌, ℕ, zero, suc, List, [], ◌∷◌, get_or, slice_set, refl, ap}
use Rattle.gj_publish.specs.SeatCalls.{numbers_of}
use Rattle.gj_publish.specs.Seats.{SeatView}
use Rattle.gj_publish.proofs.writer.Writer.post_one.Goals as goal

-- a seat keeps its number, and so all do
numbers_set : (seats : List SeatView) (i : ℕ) (d seat : SeatView) → seat.number ≡ (get_or seats i d).number → numbers_of (slice_set seats i seat) ≡ numbers_of seats
numbers_set [] i d seat same = refl
numbers_set (first ∷ seats) zero d seat same = ap (λ n. n ∷ numbers_of seats) same
numbers_set (first ∷ seats) (suc i) d seat same = ap (λ ns. first.number ∷ ns) (numbers_set seats i d seat same)

pub returns-clause-others : goal.returns-clause-others
returns-clause-others g c =
    (numbers_set c.args.seats.now c.args.made.seat c.index-seats-seat.result c.post_call.new.seat c.post_call.ensures.others.0, c.post_call.ensures.others.1)
