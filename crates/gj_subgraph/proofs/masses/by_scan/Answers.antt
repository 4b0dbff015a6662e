use Rattle.std.proofs.Common.{◌-◌, ◌*◌, ◌∙◌, ap, arith, length, fold, []}
use Rattle.gj_base.specs.Edges.{edges_of}
use Rattle.gj_subgraph.specs.Masses.{users_of, posts_of, vertices, masses_of, with_mass, spread, starting}
use Rattle.gj_subgraph.specs.Numbers.{units_in}
use Rattle.gj_subgraph.proofs.MassLemmas.{few_users}
use Rattle.gj_subgraph.proofs.masses.by_scan.Goals as goal

pub units_of-requires-clause-few : goal.units_of-requires-clause-few
units_of-requires-clause-few g c =
    let items = (g.G.Graph.shown c.args.graph.now).items in
    let mask = c.ask.inside.mask in
    let side = c.in_ok-users-2.ensures.side ∙ c.in_ok-users.ensures.users ∙ ap (λ s. users_of (edges_of items s mask)) c.as_slice.ensures in
    let names = ap (λ l. length l) (c.in_ok-users-2.ensures.numbered.names ∙ ap vertices side) in
    let few = few_users items c.ask.inside.seeds mask in
    omega (arith, names, few, c.ask.invariant.seeds.few)

pub returns : goal.returns
unfolding masses_of
returns g c =
    let items = (g.G.Graph.shown c.args.graph.now).items in
    let mask = c.ask.inside.mask in
    let n = 2 * c.ask.inside.iterations - 1 in
    let users = c.in_ok-users-2.users in
    let posts = c.in_ok-posts.posts in
    let users_side = c.in_ok-users-2.ensures.side ∙ c.in_ok-users.ensures.users ∙ ap (λ s. users_of (edges_of items s mask)) c.as_slice.ensures in
    let posts_side = c.in_ok-posts.ensures.side ∙ c.in_ok-users.ensures.posts ∙ ap (λ s. posts_of (edges_of items s mask)) c.as_slice.ensures in
    let names = c.in_ok-posts.ensures.numbered.names ∙ ap vertices posts_side in
    let units = ap (λ xs. units_in posts.names.items xs) c.as_slice-2.ensures.value ∙ c.in_ok-units.ensures.exact
    ∙ ap (λ us. spread n us posts.side.items (starting us)) users_side
    ∙ ap (λ ps. spread n (users_of (edges_of items c.ask.inside.seeds mask)) ps (starting (users_of (edges_of items c.ask.inside.seeds mask)))) posts_side in
    rw (← c.ask.view_is) (c.in_ok-found.ensures ∙ ap (λ f. fold (with_mass f) [] posts.names.items) units
    ∙ ap (λ vs. fold (with_mass (spread n (users_of (edges_of items c.ask.inside.seeds mask)) (posts_of (edges_of items c.ask.inside.seeds mask))
    (starting (users_of (edges_of items c.ask.inside.seeds mask))))) [] vs) names)
