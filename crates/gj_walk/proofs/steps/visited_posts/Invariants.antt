use Rattle.std.proofs.Common.{◌≡◌, ◌-◌, ◌++◌}
use Rattle.gj_base.specs.Draw.{words, after}
use Rattle.gj_walk.specs.Walk.{walked}
use Rattle.gj_walk.specs.declared.state.State.TheVariants.{Seed}
use Rattle.gj_walk.proofs.steps.visited_posts.Given as goal

abbrev pub invariant-loop : goal.invariant-loop
invariant-loop g l =
    let items = (g.G.Graph.shown l.graph).items in
    let step = g.R.NextWord.step in
    record {
      visited : l.posts.items ++ walked items l.ask (words step (l.ask.steps - l.counter) l.generator) l.state
          ≡ walked items l.ask (words step l.ask.steps l.fn.generator) Seed;
      further : after step (l.ask.steps - l.counter) l.generator ≡ after step l.ask.steps l.fn.generator;
    }
