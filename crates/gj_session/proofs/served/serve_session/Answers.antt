use Rattle.std.proofs.Common.{arith}
use Rattle.gj_session.proofs.FinishLemmas.{finishes}
use Rattle.gj_session.proofs.LoopLemmas.{replayed_as}
use Rattle.gj_session.proofs.SeatRunLemmas.{seat_ran}
use Rattle.gj_session.proofs.served.serve_session.Goals as goal

pub overflow_sub-entered : goal.overflow_sub-entered
overflow_sub-entered g c =
    let ran = seat_ran _ _ _ _ c.run_session-end.ensures.replayed.ended.answered.run in
    omega (arith, ran.entered, c.posted-before.ensures, c.posted.ensures)

pub new-requires : goal.new-requires
new-requires g c =
    let ran = seat_ran _ _ _ _ c.run_session-end.ensures.replayed.ended.answered.run in
    omega (arith, ran.entered, ran.few, c.posted-before.ensures, c.posted.ensures)

pub returns-clause-run : goal.returns-clause-run
returns-clause-run g c =
    rw (c.new.ensures.link, c.new.ensures.end, c.finish.ensures.told, c.finish.ensures.bytes.0, c.finish.ensures.bytes.1, c.finish.ensures.made, c.finish.ensures.faults.0, c.finish.ensures.faults.1)
    (finishes _ _ _ _ _ _ _ (replayed_as _ _ _ _ _ _ _ _ (seat_ran _ _ _) c.run_session-end.ensures.replayed))

pub returns-clause-seat : goal.returns-clause-seat
returns-clause-seat g c = (seat_ran _ _ _ _ c.run_session-end.ensures.replayed.ended.answered.run).same

pub returns-clause-entered : goal.returns-clause-entered
returns-clause-entered g c =
    let ran = seat_ran _ _ _ _ c.run_session-end.ensures.replayed.ended.answered.run in
    omega (arith, ran.entered, c.posted-before.ensures, c.posted.ensures, c.new.ensures.entered)

pub returns-clause-in_range : goal.returns-clause-in_range
returns-clause-in_range g c = (seat_ran _ _ _ _ c.run_session-end.ensures.replayed.ended.answered.run).in_range
