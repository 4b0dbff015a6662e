use Rattle.std.proofs.Common.{◌≡◌, ℕ, ◌<◌, [], All, fold, take}
use Rattle.gj_base.specs.Tally.{with_pair}
use Rattle.gj_subgraph.specs.Masses.{with_mass}
use Rattle.gj_subgraph.specs.Numbers.{units_in}
use Rattle.gj_subgraph.proofs.masses.masses.Given as goal

abbrev pub invariant-loop-u : goal.invariant-loop-u
invariant-loop-u l = record {
  above : All (λ (x : ℕ × ℕ). 0 < x.1) l.pairs.items;
  made : fold with_pair [] l.pairs.items ≡ fold (with_mass (units_in l.posts.names.items l.units)) [] (take l.u l.posts.names.items);
}
