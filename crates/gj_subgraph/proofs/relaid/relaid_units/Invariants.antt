use Rattle.std.proofs.Common.{◌≡◌, ℕ, List, ◌-◌, ◌*◌, ◌<◌, ◌^◌, length, sum}
use Rattle.gj_subgraph.specs.Masses.{spread, starting}
use Rattle.gj_subgraph.specs.Numbers.{units_in}
use Rattle.gj_subgraph.specs.Regrouped.{HaveSameEdges}
use Rattle.gj_subgraph.proofs.relaid.relaid_units.Given as goal

abbrev pub invariant-loop-i : goal.invariant-loop-i
invariant-loop-i l = record {
  len : length l.units.items ≡ length l.posts.names.items;
  small : sum l.units.items < 2 ^ 31;
  left : (near far : List ℕ) → HaveSameEdges l.users.side.items l.posts.side.items near far
      → HaveSameEdges l.back_posts.side.items l.back_users.side.items far near
      → spread (2 * (l.iterations - l._i)) far near (units_in l.posts.names.items l.units.items) ≡ spread (2 * l.iterations - 1) near far (starting near);
}
