use Rattle.std.proofs.Common.{◌≤◌, ◌∙◌, ap, arith}
use Rattle.gj_base.specs.Tally.{sum_of}
use Rattle.gj_base.specs.Edges.{edges_of}
use Rattle.gj_subgraph.specs.Masses.{users_of, posts_of, masses_of}
use Rattle.gj_subgraph.proofs.LawLemmas.{total_law}
use Rattle.gj_subgraph.proofs.MassLemmas.{same_edges}
use Rattle.gj_subgraph.proofs.SumLemmas.{masses_sum, masses_within}
use Rattle.gj_subgraph.proofs.masses.subgraph.Goals as goal

pub returns-clause-exact : goal.returns-clause-exact
returns-clause-exact g c = c.in_ok-found.ensures

pub returns-clause-kept : goal.returns-clause-kept
returns-clause-kept g c = λ n.
    let items = (g.G.Graph.shown c.args.graph.now).items in
    let edges = edges_of items c.args.ask.now.seeds c.args.ask.now.mask in
    total_law n (users_of edges) (posts_of edges) (same_edges items c.args.ask.now.seeds c.args.ask.now.mask)

pub returns-clause-in_range : goal.returns-clause-in_range
returns-clause-in_range g c =
    let items = (g.G.Graph.shown c.args.graph.now).items in
    let is = returns-clause-exact g c in
    let within : sum_of (masses_of items c.args.ask.now) ≤ 1048576000 =
    rw (← c.ask.view_is) (masses_within items _ c.ask.invariant.iterations_low c.ask.invariant.seeds.few) in
    let same = ap sum_of is in
    omega (arith, same, within)

pub returns-clause-sum : goal.returns-clause-sum
returns-clause-sum g c =
    let items = (g.G.Graph.shown c.args.graph.now).items in
    let query = c.args.ask.now in
    let some : 1 ≤ query.iterations = rw (← c.ask.view_is) c.ask.invariant.iterations_low in
    ap sum_of (returns-clause-exact g c) ∙ masses_sum items query some
