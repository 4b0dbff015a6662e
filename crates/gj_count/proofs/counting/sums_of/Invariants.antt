use Rattle.std.proofs.Common.{ℕ, take, zip}
use Rattle.gj_count.specs.Sums.{sums_at, AreWithin, AreSums}
use Rattle.gj_count.proofs.counting.sums_of.Given as goal

abbrev pub invariant-loop-i : goal.invariant-loop-i
invariant-loop-i g l = record {
  within : (p : ℕ) → AreWithin l.i (sums_at l.sums p);
  sums : (p : ℕ) → AreSums (g.G.Graph.shown l.graph).items l.mask (take l.i l.seeds) (take l.i (zip l.seeds l.weights)) p (sums_at l.sums p);
}
