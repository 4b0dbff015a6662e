use Rattle.std.proofs.Common.{◌≡◌, ◌*◌, ◌-◌, ◌<◌, ◌≤◌}
use Rattle.gj_load.specs.Totals.{visits_sum, best_in}
use Rattle.gj_load.proofs.walks.walk_all.Given as goal

abbrev pub invariant-loop-walk_number : goal.invariant-loop-walk_number
invariant-loop-walk_number g l = record {
  visits : l.walked.visits ≡ visits_sum (g.G.Graph.shown l.graph).items l.number l.count l.walk_number;
  small : l.walked.visits ≤ 1000 * l.walk_number;
  best : 0 < l.walk_number → l.walked.best ≡ best_in (g.G.Graph.shown l.graph).items l.number l.count (l.walk_number - 1);
}
