use Rattle.std.proofs.Common.{◌≡◌, ℕ, [], cond, nat_eq, length, filter, take}
use Rattle.std.specs.HashSet.{contains}
use Rattle.gj_base.specs.declared.side.Side.TheVariants.{Post}
use Rattle.gj_base.specs.Edges.{stands_in}
use Rattle.gj_subgraph.specs.Regrouped.{far_at, ends_at}
use Rattle.gj_subgraph.proofs.lists.post_edges.Given as goal

abbrev pub invariant-loop-post : goal.invariant-loop-post
invariant-loop-post g l = record {
  lined : length l.edges.near.items ≡ length l.edges.far.items;
  ends : (p : ℕ) → far_at l.edges.near.items l.edges.far.items p
      ≡ cond (stands_in (take l.post-index l.posts) p) (filter (contains nat_eq l.seeds) (ends_at (g.G.Graph.shown l.graph).items Post p l.mask)) [];
}
