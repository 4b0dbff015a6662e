use Rattle.std.proofs.Common.{◌<◌, ◌*◌, ℕ, get_or, take}
use Rattle.gj_compact.specs.Counting.{none_counted}
use Rattle.gj_compact.specs.Sums.{AreCounts}
use Rattle.gj_compact.proofs.sums.sum_blocks.Given as goal

abbrev pub invariant-loop-b : goal.invariant-loop-b
invariant-loop-b l = record {
  sums : (b : ℕ) → b < l.b → AreCounts (get_or l.sums b none_counted) (take (64 * b) l.kinds);
  counts : AreCounts l.counts (take (64 * l.b) l.kinds);
}
