use Rattle.std.proofs.Common.{◌≡◌}
use Rattle.gj_load.specs.Workload.{number_after}
use Rattle.gj_load.proofs.generator.number_after.Given as goal

abbrev pub invariant-loop : goal.invariant-loop
invariant-loop l = l.x ≡ number_after l.number l.counter
