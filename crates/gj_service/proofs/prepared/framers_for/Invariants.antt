use Rattle.std.proofs.Common.{◌≡◌, ◌≤◌, vec_len, vec_capacity}
use Rattle.gj_service.proofs.prepared.framers_for.Given as goal

abbrev pub invariant-loop : goal.invariant-loop
invariant-loop l = (vec_len l.framers ≡ l.counter) × (l.count ≤ vec_capacity l.framers)
