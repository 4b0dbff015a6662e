use Rattle.std.proofs.Common.{◌≡◌, ◌+◌, ◌≤◌, All, vec_len, vec_capacity}
use Rattle.gj_serve.specs.Passes.{no_tallies}
use Rattle.gj_serve_uses.proofs.serving.set_up.Given as goal

abbrev pub invariant-loop-seat : goal.invariant-loop-seat
invariant-loop-seat g l = record {
  made : vec_len l.desks + vec_len l.seats ≡ vec_len l.fn.seats;
  room : vec_len l.fn.seats ≤ vec_capacity l.desks;
  same : vec_len l.passes ≡ vec_len l.seats;
  passes : All (λ p. p ≡ no_tallies) l.passes.items;
  unused : All (λ d. d.pass ≡ no_tallies) l.desks.items;
}

abbrev pub decreases-loop-seat : goal.decreases-loop-seat
decreases-loop-seat g l = vec_len l.seats
