use Rattle.std.proofs.Common.{◌≡◌, ◌∙◌, ap}
use Rattle.gj_base.specs.History.{end_of, length_of}
use Rattle.gj_base.proofs.Windows.{stands_end}
use Rattle.gj_publish.specs.declared.refusal.NoLook.TheVariants.{Short}
use Rattle.gj_publish.proofs.seat.short.Goals as goal

pub returns : goal.returns
returns g c =
    let s = c.pane.inside in
    let ends : end_of (g.W.Graph.shown s.graph) ≡ length_of s.front = stands_end (g.W.Graph.shown s.graph) s.front (g.met.W.Graph.is_window s.graph).configuration.segments_low c.pane.invariant.0 in
    let shown : length_of s.front ≡ length_of c.args.pane.now = ap length_of c.pane.view_is in
    ((λ i. Short (c.length.ensures.exact i) ((c.length-2.ensures.exact ∙ shown) i)), (s.graph, ends ∙ shown))
