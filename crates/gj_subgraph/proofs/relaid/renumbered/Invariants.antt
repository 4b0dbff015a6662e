use Rattle.std.proofs.Common.{◌≡◌, ◌<◌, ℕ, length, get_or}
use Rattle.gj_subgraph.proofs.relaid.renumbered.Given as goal

abbrev pub invariant-loop-k : goal.invariant-loop-k
invariant-loop-k l = record {
  len : length l.out.items ≡ l.k;
  exact : (j : ℕ) → j < l.k → get_or l.out.items j 0 ≡ get_or l.units (get_or l.places j 0) 0;
}
