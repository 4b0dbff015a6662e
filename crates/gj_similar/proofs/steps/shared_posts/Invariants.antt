use Rattle.std.proofs.Common.{◌≡◌, ℕ, ◌-◌, ◌<◌, ◌++◌, length, All}
use Rattle.gj_base.specs.declared.side.Side.TheVariants as side
use Rattle.gj_base.specs.Ends.{ends}
use Rattle.gj_base.specs.Draw.{words, after}
use Rattle.gj_similar.specs.Similar.{co_visited}
use Rattle.gj_similar.specs.declared.state.State.TheVariants.{Post}
use Rattle.gj_similar.proofs.steps.shared_posts.Given as goal

abbrev pub invariant-loop : goal.invariant-loop
invariant-loop g l =
    let items = (g.G.Graph.shown l.graph).items in
    let step = g.R.NextWord.step in
    record {
      shared : l.posts.items ++ co_visited items l.ask (words step (l.ask.steps - l.counter) l.generator) l.state
          ≡ co_visited items l.ask (words step l.ask.steps l.fn.generator) Post;
      back : All (λ (post : ℕ). 0 < length (ends items side.Post post l.ask.mask)) l.posts.items;
      further : after step (l.ask.steps - l.counter) l.generator ≡ after step l.ask.steps l.fn.generator;
    }
