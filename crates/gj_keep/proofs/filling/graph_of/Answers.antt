use Rattle.std.proofs.Common.{◌≡◌, ap, ◌∙◌, map}
use Rattle.gj_base.specs.declared.history.Shown.{Shown}
use Rattle.gj_base.specs.History.{more, empty_shown}
use Rattle.gj_keep.specs.Rows.{item_of, first_place}
use Rattle.gj_keep.proofs.HistoryLemmas.{filled_stands, filled_conf}
use Rattle.gj_keep.proofs.filling.graph_of.Goals as goal

pub returns : goal.returns
returns g c =
    let start = c.in_ok-graph.ensures in
    let shown : g.W.Graph.shown c.fill.new.graph ≡ more (empty_shown c.args.conf (first_place c.args.rows.now)) (map item_of c.args.rows.now) =
    c.fill.ensures ∙ ap (λ (v : Shown). more v (map item_of c.args.rows.now)) (start ∙ ap (empty_shown c.args.conf) c.first_of.ensures) in
    (filled_stands _ c.args.conf c.args.rows.now shown, filled_conf _ c.args.conf c.args.rows.now shown)
