use Rattle.std.proofs.Common.{List, map, sym, subst}
use Rattle.gj_compact.specs.declared.edge.Edge.{Edge}
use Rattle.gj_compact.specs.Sums.{AreCounts, edge_kind}
use Rattle.gj_compact.proofs.view.CompactSegmentSegmentView.total.Goals as goal

pub total_in-requires : goal.total_in-requires
total_in-requires c = subst (λ (l : List Edge). AreCounts c.self.inside.kinds (map edge_kind l)) (sym c.deref.ensures.value) c.self.invariant.counted
