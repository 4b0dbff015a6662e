use Rattle.std.proofs.Common.{◌≡◌, ℕ, ◌≤◌, List, length, ap, arith}
use Rattle.gj_base.specs.Asks.{WalkQuery}
use Rattle.gj_base.specs.Draw.{words}
use Rattle.gj_base.proofs.DrawLemmas.{length-words}
use Rattle.gj_walk.specs.Walk.{walked}
use Rattle.gj_walk.specs.declared.state.State.TheVariants.{Seed}
use Rattle.gj_walk.proofs.WalkLemmas.{length-walked, tally_within}
use Rattle.gj_walk.proofs.steps.walk.Goals as goal

pub returns-clause-in_range : goal.returns-clause-in_range
returns-clause-in_range g c =
    let items = (g.G.Graph.shown c.args.graph.now).items in
    let query : WalkQuery = c.args.ask.now in
    let drawn : List ℕ = words g.R.NextWord.step query.steps c.args.generator.now in
    let count : length drawn ≡ query.steps = length-words g.R.NextWord.step query.steps c.args.generator.now in
    let most : length (walked items query drawn Seed) ≤ length drawn = length-walked items query drawn Seed in
    let posts : length c.in_ok-posts.posts.items ≡ length (walked items query drawn Seed) = ap length c.in_ok-posts.ensures.ok in
    let few : length c.in_ok-posts.posts.items ≤ query.steps = omega arith in
    tally_within c.in_ok-posts.posts.items query.steps c.of_posts.result few c.of_posts.ensures
