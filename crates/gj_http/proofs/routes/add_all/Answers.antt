use Rattle.std.proofs.Common.{ap, ◌∙◌, codes}
use Rattle.gj_base.specs.declared.ask.Route.TheVariants.{Interactions, Walk, Subgraph, Similar, Count, User, Post, Stats, Log}
use Rattle.gj_http.specs.Table.{table, with_row}
use Rattle.gj_http.proofs.routes.add_all.Goals as goal

pub returns : goal.returns
unfolding table
returns c =
    c.in_ok-add-9.ensures ∙ ap (λ x. with_row (codes "/log/{from}") Log x) (c.in_ok-add-8.ensures
    ∙ ap (λ x. with_row (codes "/stats") Stats x) (c.in_ok-add-7.ensures
    ∙ ap (λ x. with_row (codes "/posts/{id}") Post x) (c.in_ok-add-6.ensures
    ∙ ap (λ x. with_row (codes "/users/{id}") User x) (c.in_ok-add-5.ensures
    ∙ ap (λ x. with_row (codes "/count") Count x) (c.in_ok-add-4.ensures
    ∙ ap (λ x. with_row (codes "/similar") Similar x) (c.in_ok-add-3.ensures
    ∙ ap (λ x. with_row (codes "/subgraph") Subgraph x) (c.in_ok-add-2.ensures
    ∙ ap (λ x. with_row (codes "/walk") Walk x) (c.in_ok-add.ensures
    ∙ ap (λ x. with_row (codes "/interactions") Interactions x) c.requires))))))))
