use Rattle.std.proofs.Common.{◌-◌, ◌*◌, ◌∙◌, ap, arith, fold, length, []}
use Rattle.gj_base.specs.Edges.{edges_of}
use Rattle.gj_subgraph.specs.Masses.{users_of, posts_of, vertices, masses_of, with_mass, spread, starting}
use Rattle.gj_subgraph.specs.Numbers.{units_in}
use Rattle.gj_subgraph.proofs.RelaidLemmas.{few_listed, masses_same, same_vertices}
use Rattle.gj_subgraph.proofs.masses.by_lists.Goals as goal

pub listed_units-requires-clause-few : goal.listed_units-requires-clause-few
listed_units-requires-clause-few g c =
    let items = (g.G.Graph.shown c.args.graph.now).items in
    let names = ap (λ l. length l) (c.in_ok-users.ensures.numbered.names ∙ ap vertices c.in_ok-users.ensures.side) in
    let few = few_listed items c.as_slice-seeds.result.now c.ask.inside.mask c.in_ok-edges.edges.near.items c.in_ok-edges.edges.far.items c.in_ok-edges.ensures.same in
    let seeds = ap (λ l. length l) c.as_slice-seeds.ensures in
    omega (arith, names, few, seeds, c.ask.invariant.seeds.few)

pub returns : goal.returns
unfolding masses_of
returns g c =
    let items = (g.G.Graph.shown c.args.graph.now).items in
    let mask = c.ask.inside.mask in
    let n = 2 * c.ask.inside.iterations - 1 in
    let posts = c.in_ok-posts.posts in
    let edges = edges_of items c.as_slice-seeds.result.now mask in
    let units = ap (λ xs. units_in posts.names.items xs) c.as_slice.ensures.value ∙ c.in_ok-units.ensures.exact in
    let names = c.in_ok-posts.ensures.numbered.names ∙ ap vertices c.in_ok-posts.ensures.side in
    let found = c.in_ok-found.ensures ∙ ap (λ f. fold (with_mass f) [] posts.names.items) units
    ∙ ap (λ vs. fold (with_mass (spread n (users_of edges) (posts_of edges) (starting (users_of edges)))) [] vs) names
    ∙ masses_same (spread n (users_of edges) (posts_of edges) (starting (users_of edges))) (vertices c.in_ok-edges.edges.far.items) (vertices (posts_of edges))
    (same_vertices c.in_ok-edges.edges.near.items c.in_ok-edges.edges.far.items (users_of edges) (posts_of edges) c.in_ok-edges.ensures.same) in
    rw (← c.ask.view_is, ← c.as_slice-seeds.ensures) found
