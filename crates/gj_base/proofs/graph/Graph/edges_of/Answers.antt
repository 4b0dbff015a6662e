use Rattle.std.proofs.Common.{◌≡◌, ◌+◌, ◌-◌, ◌∙◌, arith, sym}
use Rattle.gj_base.proofs.EdgeLemmas.{edges_none, edges_next, edges_whole}
use Rattle.gj_base.proofs.graph.Graph.edges_of.Goals as goal

pub loop-place-init : goal.loop-place-init
loop-place-init g c =
    let shown = g.Self.Graph.shown c.args.self.now in
    let none : c.base-place.result - shown.first ≡ 0 = omega (arith, c.base-place.ensures.exact) in
    record {
      from_base = omega (arith, c.base-place.ensures.exact);
      edges = rw none (c.new-edges.ensures.items ∙ sym (edges_none c.args.users.now c.args.mask));
    }

pub loop-place-preserved : goal.loop-place-preserved
loop-place-preserved g c =
    let shown = g.Self.Graph.shown c.args.self.now in
    let i = c.loop-place.place - shown.first in
    let next : c.loop-place.place + 1 - shown.first ≡ i + 1 = omega (arith, c.loop-place.invariant.from_base) in
    record {
      from_base = omega (arith, c.loop-place.invariant.from_base);
      edges = rw (next, edges_next shown.items c.args.users.now c.args.mask i c.item.result c.item.ensures, ← c.loop-place.invariant.edges) c.in_ok-keep_edge.ensures;
    }

pub returns : goal.returns
returns g c =
    let shown = g.Self.Graph.shown c.args.self.now in
    rw (← edges_whole shown.items c.args.users.now c.args.mask (c.loop-place.place - shown.first) (omega (arith, c.loop-place-test.false, c.length-place-end.ensures.exact)))
    c.loop-place.invariant.edges
