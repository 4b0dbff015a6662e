use Rattle.std.proofs.Common.{◌≡◌}
use Rattle.gj_load.specs.Workload.{number_after, items_from}
use Rattle.gj_load.proofs.generator.next_items.Given as goal

abbrev pub invariant-loop : goal.invariant-loop
invariant-loop l = record {
  number : l.x ≡ number_after l.number l.counter;
  items : l.items.items ≡ items_from l.number l.counter;
}
