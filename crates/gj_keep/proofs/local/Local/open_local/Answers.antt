use Rattle.std.proofs.Common.{List, lit<, sym, ◌∙◌, subst}
use Rattle.gj_base.specs.declared.keeper.KeptItem.{KeptItem}
use Rattle.gj_base.specs.History.{StandsFor}
use Rattle.gj_keep.specs.Rows.{opened}
use Rattle.gj_keep.specs.Locals.{LocalKeeps}
use Rattle.gj_keep.specs.Openings.{Shows}
use Rattle.gj_keep.proofs.LocalLemmas.{ends_alike}
use Rattle.gj_keep.proofs.local.Local.open_local.Goals as goal

pub invariant_of-result : goal.invariant_of-result
invariant_of-result g c =
    let opening = c.in_ok-book.ensures in
    let graph = c.only-graph.result in
    let shows : Shows (g.W.Graph.shown graph) c.args.conf (opened c.in_ok-book.field-0-2.value.items) =
    subst (λ x. Shows (g.W.Graph.shown x) c.args.conf (opened c.in_ok-book.field-0-2.value.items)) (c.only-graph.ensures graph) (opening.graphs 0 graph (lit< tt)) in record {
      shows_all = ends_alike (g.W.Graph.shown graph) c.in_ok-book.book _ (g.met.W.Graph.is_window graph) shows.0 opening.keeps;
      configured = shows.1 ∙ sym opening.conf;
    }

pub returns-clause-keeps : goal.returns-clause-keeps
returns-clause-keeps g c =
    let opening = c.in_ok-book.ensures in
    let graph = c.only-graph.result in
    let shows : Shows (g.W.Graph.shown graph) c.args.conf (opened c.in_ok-book.field-0-2.value.items) =
    subst (λ x. Shows (g.W.Graph.shown x) c.args.conf (opened c.in_ok-book.field-0-2.value.items)) (c.only-graph.ensures graph) (opening.graphs 0 graph (lit< tt)) in
    (c.in_ok-book.field-0-2.value.items, opening.good, (shows.0, opening.keeps))

pub returns-clause-told : goal.returns-clause-told
returns-clause-told g c told =
    let opening = c.in_ok-book.ensures in
    let graph = c.only-graph.result in
    let shows : Shows (g.W.Graph.shown graph) c.args.conf (opened c.in_ok-book.field-0-2.value.items) =
    subst (λ x. Shows (g.W.Graph.shown x) c.args.conf (opened c.in_ok-book.field-0-2.value.items)) (c.only-graph.ensures graph) (opening.graphs 0 graph (lit< tt)) in
    let P : List KeptItem → Type 0 = λ rs. LocalKeeps (g.W.Graph.shown graph) c.in_ok-book.book (opened rs) in
    subst P (opening.told told) (shows.0, opening.keeps)

pub returns-clause-bare : goal.returns-clause-bare
returns-clause-bare g c bare =
    let opening = c.in_ok-book.ensures in
    let graph = c.only-graph.result in
    let shows : Shows (g.W.Graph.shown graph) c.args.conf (opened c.in_ok-book.field-0-2.value.items) =
    subst (λ x. Shows (g.W.Graph.shown x) c.args.conf (opened c.in_ok-book.field-0-2.value.items)) (c.only-graph.ensures graph) (opening.graphs 0 graph (lit< tt)) in
    let P : List KeptItem → Type 0 = λ rs. LocalKeeps (g.W.Graph.shown graph) c.in_ok-book.book (opened rs) in
    subst P (opening.bare bare) (shows.0, opening.keeps)

pub returns-clause-again : goal.returns-clause-again
returns-clause-again g c h tells keeps =
    let opening = c.in_ok-book.ensures in
    let graph = c.only-graph.result in
    let again = opening.again h tells keeps in
    (subst (λ x. StandsFor (g.W.Graph.shown x) h) (c.only-graph.ensures graph) (again.1 0 graph (lit< tt)), again.0)
