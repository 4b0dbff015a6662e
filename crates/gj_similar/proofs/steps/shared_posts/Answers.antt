use Rattle.std.proofs.Common.{◌≡◌, ℕ, ◌+◌, ◌*◌, ◌-◌, ◌<◌, ◌≤◌, ◌∙◌, List, ◌++◌, length, sym, ap, arith}
use Rattle.std.proofs.lemmas.List.{append-nil}
use Rattle.std.proofs.lemmas.List.Elements.{All-append}
use Rattle.gj_base.specs.declared.side.Side.TheVariants as side
use Rattle.gj_base.specs.Ends.{ends}
use Rattle.gj_base.specs.Asks.{SimQuery}
use Rattle.gj_base.specs.Draw.{words}
use Rattle.gj_base.proofs.DrawLemmas.{words_one, after_one, words_none, after_none, length-words}
use Rattle.gj_similar.specs.declared.state.State.TheVariants.{Post}
use Rattle.gj_similar.specs.Similar.{co_visited}
use Rattle.gj_similar.proofs.SimilarLemmas.{co_visited_none, co_visited_one, All-shared_first, length-co_visited}
use Rattle.gj_similar.proofs.steps.shared_posts.Goals as goal

pub loop-preserved : goal.loop-preserved
loop-preserved g c =
    let items = (g.G.Graph.shown c.args.graph.now).items in
    let query : SimQuery = c.args.ask.now in
    let step = g.R.NextWord.step in
    let same : c.ask.inside.steps ≡ query.steps = ap (λ (q : SimQuery). q.steps) c.ask.view_is in
    let test = c.loop-test.true in
    let more : c.loop.counter < query.steps = omega arith in
    let rest : List ℕ = words step (query.steps - (c.loop.counter + 1)) c.next_word-word.new.self in
    let drawn = words_one step query.steps c.loop.counter c.loop.generator c.next_word-word.new.self c.next_word-word.result more c.next_word-word.ensures in
    let on = after_one step query.steps c.loop.counter c.loop.generator c.next_word-word.new.self c.next_word-word.result more c.next_word-word.ensures in
    record {
      shared = ap (λ (posts : List ℕ). posts ++ co_visited items query rest c.step-shared.result.1) c.in_ok-note.ensures
          ∙ (co_visited_one items query c.next_word-word.result rest c.loop.state c.loop.posts.items c.step-shared.result.0 c.step-shared.result.1 c.step-shared.ensures.exact
          ∙ (ap (λ (drawn : List ℕ). c.loop.posts.items ++ co_visited items query drawn c.loop.state) (sym drawn) ∙ c.loop.invariant.shared));
      back = rw c.in_ok-note.ensures (All-append (λ (post : ℕ). 0 < length (ends items side.Post post query.mask)) c.loop.posts.items _ c.loop.invariant.back (All-shared_first (λ (post : ℕ). 0 < length (ends items side.Post post query.mask)) c.step-shared.result.0 c.step-shared.ensures.back));
      further = sym on ∙ c.loop.invariant.further;
    }

pub returns-clause-ok : goal.returns-clause-ok
returns-clause-ok g c =
    let items = (g.G.Graph.shown c.args.graph.now).items in
    let query : SimQuery = c.args.ask.now in
    let step = g.R.NextWord.step in
    let same : c.ask.inside.steps ≡ query.steps = ap (λ (q : SimQuery). q.steps) c.ask.view_is in
    let test = c.loop-test.false in
    let all : query.steps ≤ c.loop.counter = omega arith in
    let none = words_none step query.steps c.loop.counter c.loop.generator all in
    sym (append-nil c.loop.posts.items)
    ∙ (ap (λ (posts : List ℕ). c.loop.posts.items ++ posts) (sym (co_visited_none items query c.loop.state))
    ∙ (ap (λ (drawn : List ℕ). c.loop.posts.items ++ co_visited items query drawn c.loop.state) (sym none) ∙ c.loop.invariant.shared))

pub returns-clause-further : goal.returns-clause-further
returns-clause-further g c =
    let query : SimQuery = c.args.ask.now in
    let step = g.R.NextWord.step in
    let same : c.ask.inside.steps ≡ query.steps = ap (λ (q : SimQuery). q.steps) c.ask.view_is in
    let test = c.loop-test.false in
    let all : query.steps ≤ c.loop.counter = omega arith in
    sym (after_none step query.steps c.loop.counter c.loop.generator all) ∙ c.loop.invariant.further

pub returns-clause-few : goal.returns-clause-few
returns-clause-few g c =
    let items = (g.G.Graph.shown c.args.graph.now).items in
    let query : SimQuery = c.args.ask.now in
    let step = g.R.NextWord.step in
    let same : c.ask.inside.steps ≡ query.steps = ap (λ (q : SimQuery). q.steps) c.ask.view_is in
    let high : c.ask.inside.steps ≤ 100000 = c.ask.invariant.steps_high in
    let drawn : List ℕ = words step query.steps c.args.generator.now in
    let count : length drawn ≡ query.steps = length-words step query.steps c.args.generator.now in
    let most : 2 * length (co_visited items query drawn Post) ≤ length drawn = length-co_visited items query drawn in
    let posts : length c.loop.posts.items ≡ length (co_visited items query drawn Post) = ap length (returns-clause-ok g c) in
    omega arith
