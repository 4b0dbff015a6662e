use Rattle.std.proofs.Common.{◌≡◌, ℕ, [], cond, nat_eq, length, take}
use Rattle.std.specs.HashSet.{contains}
use Rattle.gj_base.specs.declared.side.Side.TheVariants.{User}
use Rattle.gj_base.specs.Edges.{stands_in}
use Rattle.gj_subgraph.specs.Regrouped.{far_at, ends_at}
use Rattle.gj_subgraph.proofs.lists.user_edges.Given as goal

abbrev pub invariant-loop-seed : goal.invariant-loop-seed
invariant-loop-seed g l = record {
  lined : length l.edges.near.items ≡ length l.edges.far.items;
  set : (user : ℕ) → contains nat_eq l.set user ≡ stands_in (take l.seed-index l.seeds) user;
  ends : (u : ℕ) → far_at l.edges.near.items l.edges.far.items u
      ≡ cond (stands_in (take l.seed-index l.seeds) u) (ends_at (g.G.Graph.shown l.graph).items User u l.mask) [];
}
