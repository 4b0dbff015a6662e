use Rattle.std.proofs.Common.{◌≡◌, ◌∙◌, ap, sym, List, slice_index_or, subst, arith}
use Rattle.gj_base.specs.declared.history.History.{History}
use Rattle.gj_base.specs.History.{StandsFor, conf_of}
use Rattle.gj_base.specs.Configuration.{Configuration}
use Rattle.gj_keep.specs.Rows.{opened}
use Rattle.gj_publish.specs.Writers.{Resumes}
use Rattle.gj_publish.proofs.Resuming.{resumes_by}
use Rattle.gj_publish.proofs.opening.open_index.Goals as goal

pub parts_of-requires-clause-graphs : goal.parts_of-requires-clause-graphs
parts_of-requires-clause-graphs g c =
    let pair = c.pair_of-first.result in
    let is = c.pair_of-first.ensures in
    let rows = c.in_ok-book.rows.value.items in (
      subst (λ (xs : List g.row.W.Denot). StandsFor (g.W.Graph.shown (slice_index_or xs 0 pair.0)) (opened rows)) is (c.in_ok-book.ensures.graphs 0 pair.0 (omega arith)).0,
      subst (λ (xs : List g.row.W.Denot). StandsFor (g.W.Graph.shown (slice_index_or xs 1 pair.1)) (opened rows)) is (c.in_ok-book.ensures.graphs 1 pair.1 (omega arith)).0,
    )

pub parts_of-requires-clause-conf : goal.parts_of-requires-clause-conf
parts_of-requires-clause-conf g c =
    let pair = c.pair_of-first.result in
    let is = c.pair_of-first.ensures in
    let conf : Configuration = c.args.conf in (
      subst (λ (xs : List g.row.W.Denot). conf_of (g.W.Graph.shown (slice_index_or xs 0 pair.0)) ≡ conf) is (c.in_ok-book.ensures.graphs 0 pair.0 (omega arith)).1 ∙ c.requires.conf,
      subst (λ (xs : List g.row.W.Denot). conf_of (g.W.Graph.shown (slice_index_or xs 1 pair.1)) ≡ conf) is (c.in_ok-book.ensures.graphs 1 pair.1 (omega arith)).1 ∙ c.requires.conf,
    )

pub returns-in-Ok-clause-again : goal.returns-in-Ok-clause-again
returns-in-Ok-clause-again g c h tells kept =
    let first = c.pair_of-first.result.0 in
    let is = c.pair_of-first.ensures in
    let done = c.in_ok-book.ensures in
    let o : History = opened c.in_ok-book.rows.value.items in
    let conf : Configuration = c.args.conf in
    let again = done.again h tells kept in
    let shows : StandsFor (g.W.Graph.shown first) o = subst (λ (xs : List g.row.W.Denot). StandsFor (g.W.Graph.shown (slice_index_or xs 0 first)) o) is (done.graphs 0 first (omega arith)).0 in
    let also : StandsFor (g.W.Graph.shown first) h = subst (λ (xs : List g.row.W.Denot). StandsFor (g.W.Graph.shown (slice_index_or xs 0 first)) h) is (again.1 0 first (omega arith)) in
    let under : conf_of (g.W.Graph.shown first) ≡ conf = subst (λ (xs : List g.row.W.Denot). conf_of (g.W.Graph.shown (slice_index_or xs 0 first)) ≡ conf) is (done.graphs 0 first (omega arith)).1 in
    let accepted : c.new.result.accepted ≡ o = ap (λ v. v.accepted) c.new.ensures ∙ ap (λ s. s.history) c.in-Ok.ensures.scribe in
    subst (λ (a : History). Resumes conf a h) (sym accepted)
    (resumes_by conf (g.W.Graph.shown first) c.in_ok-book.book o h done.keeps again.0 under shows also)
