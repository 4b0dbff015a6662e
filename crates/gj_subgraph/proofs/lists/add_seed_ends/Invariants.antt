use Rattle.std.proofs.Common.{◌≡◌, ℕ, ◌++◌, [], cond, nat_eq, length, map, filter, take}
use Rattle.std.specs.HashSet.{contains}
use Rattle.gj_base.specs.declared.kind.Kind.{Kind}
use Rattle.gj_base.specs.declared.side.Side.TheVariants.{Post}
use Rattle.gj_base.specs.Ends.{ends}
use Rattle.gj_subgraph.specs.Regrouped.{far_at}
use Rattle.gj_subgraph.proofs.lists.add_seed_ends.Given as goal

abbrev pub invariant-loop-i : goal.invariant-loop-i
invariant-loop-i g l =
    let items = (g.G.Graph.shown l.graph).items in
    record {
      lined : length l.edges.near.items ≡ length l.edges.far.items;
      ends : (u : ℕ) → far_at l.edges.near.items l.edges.far.items u
          ≡ far_at l.fn.edges.near.items l.fn.edges.far.items u
          ++ cond (nat_eq l.post u) (filter (contains nat_eq l.seeds) (map (λ (e : ℕ × Kind). e.0) (take l.i (ends items Post l.post l.mask)))) [];
    }
