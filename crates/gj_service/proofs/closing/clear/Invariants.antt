use Rattle.std.proofs.Common.{◌≡◌, ◌+◌, ◌<◌, ◌≤◌, All, vec_len, vec_capacity, sum_by}
use Rattle.gj_service.specs.Desks.{IsServedDesk}
use Rattle.gj_service.proofs.closing.clear.Given as goal

abbrev pub invariant-loop-desk : goal.invariant-loop-desk
invariant-loop-desk g l = record {
  served : All (λ d. IsServedDesk d.seat.posted d.pass) l.desks.items;
  passes : vec_len l.passes + vec_len l.desks ≡ vec_len l.fn.desks;
  seats : vec_len l.seats + vec_len l.desks ≡ vec_len l.fn.desks;
  room : (vec_len l.fn.desks ≤ vec_capacity l.passes) × (vec_len l.fn.desks ≤ vec_capacity l.seats);
  all_back : sum_by (λ p. p.taken) l.passes.items ≡ sum_by (λ p. p.back) l.passes.items;
  told : 0 < vec_len l.passes → 0 < sum_by (λ p. p.overs) l.passes.items;
  entered : sum_by (λ s. s.posted) l.seats.items ≡ sum_by (λ p. p.entered) l.passes.items;
}

abbrev pub decreases-loop-desk : goal.decreases-loop-desk
decreases-loop-desk g l = vec_len l.desks
