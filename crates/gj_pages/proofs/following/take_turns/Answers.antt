use Rattle.std.proofs.Common.{ℕ, take, ap, arith, length-take}
use Rattle.gj_pages.proofs.RunLemmas.{followed_end, followed_fault, followed_line, followed_turns, run_more, run_none}
use Rattle.gj_pages.proofs.following.take_turns.Goals as goal

pub turns-init : goal.turns-init
turns-init g c = record { run = run_none _ _ _ c.args.line.now c.requires; steady = λ s. s }

pub returns-in_default-clause-followed : goal.returns-in_default-clause-followed
returns-in_default-clause-followed g c =
    followed_fault _ _ _ _ _ _ _ c.turns.line c.turns.turn c.args.turns c.turns.invariant.run c.in_default.ensures.err c.turns-test.true

pub returns-then-n-eq0-clause-followed : goal.returns-then-n-eq0-clause-followed
returns-then-n-eq0-clause-followed g c =
    followed_end _ _ _ _ _ _ _ _ c.turns.line _ c.turns.turn c.args.turns c.at_end.result c.turns.invariant.run c.in-Ok.ensures.ok
    (ap (λ (n : ℕ). take n c.read_piece.new.piece) c.if-n-eq0.true) c.turns-test.true c.at_end.ensures

pub returns-in-Err-clause-followed : goal.returns-in-Err-clause-followed
returns-in-Err-clause-followed g c =
    followed_line _ _ _ _ _ _ _ _ _ c.turns.line _ c.turns.turn c.args.turns c.in-Err.end c.turns.invariant.run c.in-Ok.ensures.ok c.turns-test.true
    c.in-Err.ensures.fed c.in-Err.ensures.by_line

pub turns-preserved : goal.turns-preserved
turns-preserved g c = record {
  run = run_more _ _ _ _ _ _ _ _ _ c.turns.line _ _ c.turns.turn c.turns.invariant.run c.in-Ok.ensures.ok
      (λ none. c.if-n-eq0.false (omega (arith, none, c.in-Ok.ensures.in_range, length-take c.in-Ok.n c.read_piece.new.piece))) (λ a o bytes x. rw c.in_default-take_piece.is at (c.take_piece.ensures.fed a o bytes x));
  steady = λ s. (c.read_piece.ensures.steady (c.turns.invariant.steady s)).1;
}

pub returns-clause-followed : goal.returns-clause-followed
returns-clause-followed g c = followed_turns _ _ _ _ _ _ c.turns.line c.turns.turn c.args.turns c.turns.invariant.run (omega (arith, c.turns-test.false))
