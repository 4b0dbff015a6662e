use Rattle.std.proofs.Common.{◌≡◌, ℕ, take}
use Rattle.gj_base.specs.declared.side.Side.TheVariants.{User}
use Rattle.gj_base.specs.Ends.{ends}
use Rattle.gj_count.specs.Sums.{sums_at, with_ends, AreWithin}
use Rattle.gj_count.proofs.counting.add_seed.Given as goal

abbrev pub invariant-loop-i : goal.invariant-loop-i
invariant-loop-i g l =
    let found = ends (g.G.Graph.shown l.graph).items User l.seed l.mask in
    record {
      within : (p : ℕ) → AreWithin l.turn (sums_at l.sums p);
      sums : (p : ℕ) → sums_at l.sums p ≡ with_ends (take l.i found) l.turn l.weight p (sums_at l.fn.sums p);
    }
