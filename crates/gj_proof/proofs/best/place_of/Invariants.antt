use Rattle.std.proofs.Common.{◌≡◌, ◌<◌, ◌≤◌, false, length, get_or}
use Rattle.gj_proof.specs.Ranking.{comes_before}
use Rattle.gj_proof.proofs.best.place_of.Given as goal

abbrev pub invariant-loop-at : goal.invariant-loop-at
invariant-loop-at l =
    record { in_range : l.at ≤ length l.best; not_here : l.at < length l.best → comes_before (get_or l.best l.at (0, 0)) l.pair ≡ false }

abbrev pub decreases-loop-at : goal.decreases-loop-at
decreases-loop-at l = l.at
