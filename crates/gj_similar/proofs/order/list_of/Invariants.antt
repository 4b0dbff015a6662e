use Rattle.std.proofs.Common.{◌≡◌, ◌++◌}
use Rattle.gj_similar.proofs.order.list_of.Given as goal

abbrev pub invariant-loop-score : goal.invariant-loop-score
invariant-loop-score l = l.scores ++ l.score-iterator ≡ l.best.keys
