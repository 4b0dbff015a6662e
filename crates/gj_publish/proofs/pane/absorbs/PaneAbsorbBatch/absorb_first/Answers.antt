use Rattle.std.proofs.Common.{◌^◌, ◌∙◌, arith}
use Rattle.gj_publish.proofs.Panes.{room_for, stands_behind, conf_behind}
use Rattle.gj_publish.proofs.pane.absorbs.PaneAbsorbBatch.absorb_first.Goals as goal

pub take-requires : goal.take-requires
take-requires g c =
    let s = c.self.inside in
    let b = c.args.operation.now in
    let same = c.if-same.ensures ∙ c.before-2.ensures in
    room_for (g.W.Graph.shown s.graph) s.front b.before c.after-after.result b.by b.items (2 ^ 48) (g.met.W.Graph.is_window s.graph) c.self.invariant.0 same c.after-after.ensures.adds (omega (arith, c.length.ensures.exact, c.length.ensures.in_range))

pub invariant_of-self : goal.invariant_of-self
invariant_of-self g c =
    let s = c.self.inside in
    let b = c.args.operation.now in
    let same = c.if-same.ensures ∙ c.before-2.ensures in (
      stands_behind (g.W.Graph.shown s.graph) _ s.front b.before c.after-after.result b.by b.items (g.met.W.Graph.is_window s.graph) c.self.invariant.0 same c.after-after.ensures.adds c.take.ensures,
      conf_behind (g.W.Graph.shown s.graph) _ b.items _ c.self.invariant.1 c.take.ensures,
    )
