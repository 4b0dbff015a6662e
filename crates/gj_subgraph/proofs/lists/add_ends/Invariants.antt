use Rattle.std.proofs.Common.{◌≡◌, ℕ, ◌++◌, [], cond, nat_eq, length, map, take}
use Rattle.gj_base.specs.declared.kind.Kind.{Kind}
use Rattle.gj_base.specs.declared.side.Side.TheVariants.{User}
use Rattle.gj_base.specs.Ends.{ends}
use Rattle.gj_subgraph.specs.Regrouped.{far_at}
use Rattle.gj_subgraph.proofs.lists.add_ends.Given as goal

abbrev pub invariant-loop-i : goal.invariant-loop-i
invariant-loop-i g l =
    let items = (g.G.Graph.shown l.graph).items in
    record {
      lined : length l.edges.near.items ≡ length l.edges.far.items;
      ends : (u : ℕ) → far_at l.edges.near.items l.edges.far.items u
          ≡ far_at l.fn.edges.near.items l.fn.edges.far.items u
          ++ cond (nat_eq l.user u) (map (λ (e : ℕ × Kind). e.0) (take l.i (ends items User l.user l.mask))) [];
    }
