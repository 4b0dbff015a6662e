use Rattle.std.proofs.Common.{◌≡◌, ◌-◌, ◌≤◌, take}
use Rattle.gj_base.specs.Edges.{edges_of}
use Rattle.gj_base.proofs.graph.Graph.edges_of.Given as goal

abbrev pub invariant-loop-place : goal.invariant-loop-place
invariant-loop-place g l =
    let shown = g.Self.Graph.shown l.self in
    record {
      from_base : shown.first ≤ l.place;
      edges : l.edges.items ≡ edges_of (take (l.place - shown.first) shown.items) l.users l.mask;
    }
