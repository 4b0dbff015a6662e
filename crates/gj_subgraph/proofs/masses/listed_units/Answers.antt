use Rattle.std.proofs.Common.{◌-◌, ◌*◌, ◌∙◌, nat_eq, arith}
use Rattle.std.specs.HashSet.{contains}
use Rattle.gj_base.specs.Edges.{edges_of}
use Rattle.gj_subgraph.specs.Masses.{users_of, posts_of}
use Rattle.gj_subgraph.proofs.ListLemmas.{post_edges_same}
use Rattle.gj_subgraph.proofs.RelaidLemmas.{names_distinct, one_step}
use Rattle.gj_subgraph.proofs.masses.listed_units.Goals as goal

pub returns-then-iterations-eq1-clause-exact : goal.returns-then-iterations-eq1-clause-exact
returns-then-iterations-eq1-clause-exact g c =
    let edges = edges_of (g.G.Graph.shown c.args.graph.now).items c.args.seeds.now c.args.mask in
    c.in_ok-units.ensures.exact ∙ one_step (2 * c.args.iterations - 1) c.args.users.now.side.items c.args.posts.now.side.items (users_of edges) (posts_of edges) (omega arith) c.requires.same

pub post_edges-requires : goal.post_edges-requires
post_edges-requires g c = λ v. rw (c.as_slice.ensures.value) (names_distinct c.args.posts.now.side.items c.args.posts.now.names.items c.requires.posts.names v)

pub relaid_units-requires-clause-relaid : goal.relaid_units-requires-clause-relaid
relaid_units-requires-clause-relaid g c =
    let items = (g.G.Graph.shown c.args.graph.now).items in
    let edges = edges_of items c.args.seeds.now c.args.mask in
    record {
      near = users_of edges;
      far = posts_of edges;
      by_users = c.requires.same;
      by_posts = rw (c.in_ok-back_posts.ensures.side, c.in_ok-back_users.ensures.side)
          (post_edges_same items c.args.seeds.now c.args.mask c.args.users.now.side.items c.args.posts.now.side.items c.in_ok-back.back.near.items c.in_ok-back.back.far.items
          c.args.posts.now.names.items (contains nat_eq c.args.set.now) c.requires.same c.requires.posts.names c.requires.set c.in_ok-back.ensures.lined
          (λ p. rw (c.as_slice.ensures.value) at (c.in_ok-back.ensures.ends p)));
    }

pub returns-clause-exact : goal.returns-clause-exact
returns-clause-exact g c =
    let items = (g.G.Graph.shown c.args.graph.now).items in
    let edges = edges_of items c.args.seeds.now c.args.mask in
    c.in_ok-units-2.ensures.exact (users_of edges) (posts_of edges) c.requires.same
    (rw (c.in_ok-back_posts.ensures.side, c.in_ok-back_users.ensures.side)
    (post_edges_same items c.args.seeds.now c.args.mask c.args.users.now.side.items c.args.posts.now.side.items c.in_ok-back.back.near.items c.in_ok-back.back.far.items
    c.args.posts.now.names.items (contains nat_eq c.args.set.now) c.requires.same c.requires.posts.names c.requires.set c.in_ok-back.ensures.lined
    (λ p. rw (c.as_slice.ensures.value) at (c.in_ok-back.ensures.ends p))))
