use Rattle.std.proofs.Common.{◌≡◌, ◌<◌, ◌≤◌, ℕ, length, slice_index_or, vec_capacity}
use Rattle.gj_base.specs.History.{Begins}
use Rattle.gj_publish.specs.SeatCalls.{faults_answered, numbers_of}
use Rattle.gj_publish.specs.Seats.{SeatView}
use Rattle.gj_publish.proofs.CallsLemmas.{Called}
use Rattle.gj_publish.proofs.writer.Writer.post_all.Given as goal

abbrev pub invariant-loop-made : goal.invariant-loop-made
invariant-loop-made g l = record {
  room : length l.fn.calls.items ≤ vec_capacity l.answers;
  called : Called (numbers_of l.fn.seats) l.fn.self.noted l.fn.self.accepted l.yielded l.answers.items l.self.noted l.self.accepted;
  numbers : numbers_of l.seats ≡ numbers_of l.fn.seats;
  fronts : (i : ℕ) (d : SeatView) → i < length l.fn.seats → Begins (slice_index_or l.fn.seats i d).front (slice_index_or l.seats i d).front;
  published : Begins l.fn.self.published l.self.published;
  start : l.self.start ≡ l.fn.self.start;
  later : l.fn.self.faults ≤ l.self.faults;
  count : l.self.faults ≡ faults_answered l.fn.self.faults l.answers.items;
}
