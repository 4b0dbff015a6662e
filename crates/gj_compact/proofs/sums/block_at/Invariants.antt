use Rattle.std.proofs.Common.{◌-◌, ◌≤◌, get_or}
use Rattle.gj_compact.specs.Counting.{counted, none_counted}
use Rattle.gj_compact.proofs.sums.block_at.Given as goal

abbrev pub invariant-loop-low : goal.invariant-loop-low
invariant-loop-low l = record {
  from : l.fn.low ≤ l.low;
  order : l.low ≤ l.high;
  to : l.high ≤ l.fn.high;
  begins : counted l.mask (get_or l.sums l.low none_counted) ≤ l.goal;
}

abbrev pub decreases-loop-low : goal.decreases-loop-low
decreases-loop-low l = l.high - l.low
