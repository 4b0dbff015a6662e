use Rattle.std.proofs.Common.{◌≡◌, ℕ, ◌+◌, ◌-◌, ◌<◌, ◌≤◌, ◌∙◌, List, ◌++◌, sym, ap, arith}
use Rattle.std.proofs.lemmas.List.{append-nil}
use Rattle.gj_base.specs.Asks.{WalkQuery}
use Rattle.gj_base.specs.Draw.{words}
use Rattle.gj_base.proofs.DrawLemmas.{words_one, after_one, words_none, after_none}
use Rattle.gj_walk.specs.Walk.{walked}
use Rattle.gj_walk.proofs.WalkLemmas.{walked_none, walked_one}
use Rattle.gj_walk.proofs.steps.visited_posts.Goals as goal

pub loop-preserved : goal.loop-preserved
loop-preserved g c =
    let items = (g.G.Graph.shown c.args.graph.now).items in
    let query : WalkQuery = c.args.ask.now in
    let step = g.R.NextWord.step in
    let same : c.ask.inside.steps ≡ query.steps = ap (λ (q : WalkQuery). q.steps) c.ask.view_is in
    let test = c.loop-test.true in
    let more : c.loop.counter < query.steps = omega arith in
    let rest : List ℕ = words step (query.steps - (c.loop.counter + 1)) c.next_word-word.new.self in
    let drawn = words_one step query.steps c.loop.counter c.loop.generator c.next_word-word.new.self c.next_word-word.result more c.next_word-word.ensures in
    let on = after_one step query.steps c.loop.counter c.loop.generator c.next_word-word.new.self c.next_word-word.result more c.next_word-word.ensures in
    record {
      visited = ap (λ (posts : List ℕ). posts ++ walked items query rest c.step-visited.result.1) c.in_ok-note.ensures
          ∙ (walked_one items query c.next_word-word.result rest c.loop.state c.loop.posts.items c.step-visited.result.0 c.step-visited.result.1 c.step-visited.ensures
          ∙ (ap (λ (drawn : List ℕ). c.loop.posts.items ++ walked items query drawn c.loop.state) (sym drawn) ∙ c.loop.invariant.visited));
      further = sym on ∙ c.loop.invariant.further;
    }

pub returns-clause-ok : goal.returns-clause-ok
returns-clause-ok g c =
    let items = (g.G.Graph.shown c.args.graph.now).items in
    let query : WalkQuery = c.args.ask.now in
    let step = g.R.NextWord.step in
    let same : c.ask.inside.steps ≡ query.steps = ap (λ (q : WalkQuery). q.steps) c.ask.view_is in
    let test = c.loop-test.false in
    let all : query.steps ≤ c.loop.counter = omega arith in
    let none = words_none step query.steps c.loop.counter c.loop.generator all in
    sym (append-nil c.loop.posts.items)
    ∙ (ap (λ (posts : List ℕ). c.loop.posts.items ++ posts) (sym (walked_none items query c.loop.state))
    ∙ (ap (λ (drawn : List ℕ). c.loop.posts.items ++ walked items query drawn c.loop.state) (sym none) ∙ c.loop.invariant.visited))

pub returns-clause-further : goal.returns-clause-further
returns-clause-further g c =
    let query : WalkQuery = c.args.ask.now in
    let step = g.R.NextWord.step in
    let same : c.ask.inside.steps ≡ query.steps = ap (λ (q : WalkQuery). q.steps) c.ask.view_is in
    let test = c.loop-test.false in
    let all : query.steps ≤ c.loop.counter = omega arith in
    sym (after_none step query.steps c.loop.counter c.loop.generator all) ∙ c.loop.invariant.further
