use Rattle.std.proofs.Common.{◌≡◌, ℕ, ◌<◌, ◌/◌, ◌%◌, length, get_or}
use Rattle.gj_subgraph.proofs.step.parts_of.Given as goal

abbrev pub invariant-loop-u : goal.invariant-loop-u
invariant-loop-u l = record {
  parts_len : length l.parts.items ≡ l.u;
  parts : (k : ℕ) → k < l.u → get_or l.parts.items k 0 ≡ get_or l.units k 0 / get_or l.degrees k 0;
  more_len : length l.more.items ≡ l.u;
  more : (k : ℕ) → k < l.u → get_or l.more.items k 0 ≡ get_or l.units k 0 % get_or l.degrees k 0;
}
