use Rattle.std.proofs.Common.{map, take}
use Rattle.gj_compact.specs.Sums.{AreCounts, edge_kind}
use Rattle.gj_compact.proofs.totals.count_all.Given as goal

abbrev pub invariant-loop-edge : goal.invariant-loop-edge
invariant-loop-edge l = AreCounts l.counts (take l.edge-index (map edge_kind l.edges))
