use Rattle.std.proofs.Common.{◌≡◌, take}
use Rattle.gj_subgraph.specs.Masses.{users_of, posts_of}
use Rattle.gj_subgraph.proofs.masses.edges.Given as goal

abbrev pub invariant-loop-edge : goal.invariant-loop-edge
invariant-loop-edge g l = record {
  users : l.users.items ≡ users_of (take l.edge-index l.edge-items);
  posts : l.posts.items ≡ posts_of (take l.edge-index l.edge-items);
}
