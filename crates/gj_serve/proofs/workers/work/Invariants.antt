use Rattle.std.proofs.Common.{◌≡◌, ◌+◌, ◌^◌, ◌≤◌}
use Rattle.gj_base.specs.History.{Begins}
use Rattle.gj_serve.proofs.workers.work.Given as goal

abbrev pub invariant-loop : goal.invariant-loop
invariant-loop g l = record {
  can : (goal.iterator-loop g).can_next l.iterator';
  ends : (goal.iterator-loop g).is_finite l.iterator';
  untold : l.pass.overs ≡ 0;
  all_back : l.pass.taken ≡ l.pass.back;
  in_range : l.pass.entered ≤ 2 ^ 48;
  number : l.seat.number ≡ l.fn.desk.seat.number;
  later : Begins l.fn.desk.seat.front l.seat.front;
  entered : l.seat.posted ≡ l.fn.desk.seat.posted + l.pass.entered;
}
