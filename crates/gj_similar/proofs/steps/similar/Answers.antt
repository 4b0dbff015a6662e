use Rattle.std.proofs.Common.{◌≡◌, ℕ, ◌≤◌, ◌∙◌, List, ap, arith, length}
use Rattle.std.specs.Prelude.{Result, Ok, Err, IfOk}
use Rattle.gj_base.specs.Tally.{sum_of, tally}
use Rattle.gj_base.proofs.TallyLemmas.{sum_of-tally}
use Rattle.gj_similar.proofs.SimilarLemmas.{scorable}
use Rattle.gj_similar.proofs.steps.similar.Goals as goal

within : {E : Type 0} (posts : List ℕ) (result : Result (List (ℕ × ℕ)) E) → length posts ≤ 50000
    → IfOk result (λ shared. shared ≡ tally posts) → IfOk result (λ shared. sum_of shared ≤ 50000)
within posts (Ok shared) few is =
    let sum : sum_of shared ≡ length posts = ap sum_of is ∙ sum_of-tally posts in
    omega arith
within posts (Err e) few is = tt

pub returns-clause-scorable : goal.returns-clause-scorable
returns-clause-scorable g c =
    scorable (g.G.Graph.shown c.args.graph.now).items c.args.ask.now.mask c.in_ok-posts.posts.items c.of_posts.result c.in_ok-posts.ensures.few c.in_ok-posts.ensures.back c.of_posts.ensures

pub returns-clause-in_range : goal.returns-clause-in_range
returns-clause-in_range g c = within c.in_ok-posts.posts.items c.of_posts.result c.in_ok-posts.ensures.few c.of_posts.ensures
