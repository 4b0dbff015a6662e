use Rattle.std.proofs.Common.{◌≡◌, ◌++◌, ◌∙◌, List, [], sym, ap, subst}
use Rattle.std.proofs.lemmas.List.{append-nil}
use Rattle.std.proofs.lemmas.Map.Iter.{rest_all}
use Rattle.std.specs.Map.Iter.{deref}
use Rattle.std.specs.List.Sorted.{IsStrictlySortedBy}
use Rattle.gj_similar.specs.Scored.{Scored, score_cmp}
use Rattle.gj_similar.proofs.order.list_of.Goals as goal

pub returns-clause-ordered : goal.returns-clause-ordered
returns-clause-ordered c =
    let scores : List Scored = c.loop-score.scores in
    let none : c.loop-score.score-iterator ≡ [] = rest_all deref c.loop-score.score-iterator c.next.new.self c.next.result c.in-None.is c.next.ensures.steps in
    let all : c.args.best.now.keys ≡ scores = sym c.loop-score.invariant ∙ (ap (λ (rest : List Scored). scores ++ rest) none ∙ append-nil scores) in
    let Holds : List Scored → Type 0 = IsStrictlySortedBy score_cmp in
    subst Holds all c.iter-score-items.ensures.ordered
