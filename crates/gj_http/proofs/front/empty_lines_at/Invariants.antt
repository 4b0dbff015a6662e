use Rattle.std.proofs.Common.{length, ◌-◌, ◌≡◌, ◌+◌, ◌≤◌, drop}
use Rattle.gj_http.specs.Cut.{empty_lines}
use Rattle.gj_http.proofs.front.empty_lines_at.Given as goal

abbrev pub invariant-loop-passed : goal.invariant-loop-passed
invariant-loop-passed l = record {
  within : l.passed ≤ length l.bytes;
  so_far : l.passed + empty_lines (drop l.passed l.bytes) ≡ empty_lines l.bytes;
}

abbrev pub decreases-loop-passed : goal.decreases-loop-passed
decreases-loop-passed l = length l.bytes - l.passed
