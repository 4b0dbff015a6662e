use Rattle.std.proofs.Common.{◌≡◌, ◌∙◌, ap, sym, subst, arith}
use Rattle.gj_base.specs.declared.history.Shown.{Shown}
use Rattle.gj_load.specs.Totals.{history_of}
use Rattle.gj_load.specs.Workload.{items_from}
use Rattle.gj_base.specs.Configuration.{Configuration}
use Rattle.gj_base.specs.History.{StandsFor, base, conf_of}
use Rattle.gj_base.proofs.Windows.{base_le}
use Rattle.gj_load.proofs.TotalsLemmas.{totals_are}
use Rattle.gj_load.proofs.posting.run_load.Goals as goal

pub overflow_sub-result : goal.overflow_sub-result
overflow_sub-result g c =
    omega (arith, base_le c.conf.result.capacity c.conf.result.segments c.args.count c.base-base.ensures.in_range.segments_low, c.base-base.ensures.exact)

pub returns-clause-ok : goal.returns-clause-ok
returns-clause-ok g c =
    let index = c.post_all.new.index in
    let shown = g.I.View.Graph.shown c.view-view.result.now in
    let is : shown ≡ g.I.Index.viewed index = c.view-view.ensures in
    let conf : conf_of shown ≡ conf_of (g.I.Index.viewed c.args.index.now) = ap conf_of is ∙ c.in_ok-batches.ensures.conf in
    let h = history_of (items_from c.args.number c.args.count) in
    let stands : StandsFor shown h = subst (λ (w : Shown). StandsFor w h) (sym is) (g.met.I.Index.stands index h c.in_ok-batches.ensures.ok) in
    let at : c.conf.result ≡ conf_of (g.I.Index.viewed c.args.index.now) = c.conf.ensures ∙ conf in
    totals_are (conf_of (g.I.Index.viewed c.args.index.now)) shown c.args.number c.args.count c.in_ok-batches.batches c.base-base.result c.in-Ok.walked.visits c.in-Ok.walked.best
    conf stands c.in_ok-batches.ensures.batches
    (c.base-base.ensures.exact ∙ ap (λ (x : Configuration). base x.capacity x.segments c.args.count) at)
    c.in-Ok.ensures.visits c.in-Ok.ensures.best
