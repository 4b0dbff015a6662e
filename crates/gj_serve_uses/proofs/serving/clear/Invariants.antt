use Rattle.std.proofs.Common.{◌≡◌, ◌+◌, ◌<◌, ◌≤◌, All, vec_len, vec_capacity, sum_by}
use Rattle.gj_serve_uses.proofs.serving.clear.Given as goal

abbrev pub invariant-loop-desk : goal.invariant-loop-desk
invariant-loop-desk g l = record {
  told : All (λ d. 0 < d.pass.overs) l.desks.items;
  passes : vec_len l.passes + vec_len l.desks ≡ vec_len l.fn.desks;
  seats : vec_len l.seats + vec_len l.desks ≡ vec_len l.fn.desks;
  room : (vec_len l.fn.desks ≤ vec_capacity l.passes) × (vec_len l.fn.desks ≤ vec_capacity l.seats);
  overs : 0 < vec_len l.passes → 0 < sum_by (λ p. p.overs) l.passes.items;
}

abbrev pub decreases-loop-desk : goal.decreases-loop-desk
decreases-loop-desk g l = vec_len l.desks
