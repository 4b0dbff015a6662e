use Rattle.std.proofs.Common.{map, get_or, arith}
use Rattle.std.proofs.lemmas.List.{get_or_default}
use Rattle.gj_base.specs.declared.kind.Kind.TheVariants.{Click}
use Rattle.gj_compact.specs.declared.edge.Edge.{Edge}
use Rattle.gj_compact.specs.Sums.{edge_kind}
use Rattle.gj_compact.proofs.SumLemmas.{counts_few}
use Rattle.gj_compact.proofs.TotalLemmas.{counts_next}
use Rattle.gj_compact.proofs.totals.count_all.Goals as goal

pub more-counts-requires : goal.more-counts-requires
more-counts-requires c = λ other.
    omega (arith, counts_few c.loop-edge.counts (map edge_kind c.args.edges.now) c.loop-edge.edge-index other c.loop-edge.invariant, c.loop-edge-test.true, c.requires)

pub loop-edge-preserved : goal.loop-edge-preserved
loop-edge-preserved c =
    let d : Edge = record { user = 0; post = 0; kind = Click; at = 0 } in
    let edges = c.args.edges.now in
    let x : Edge = get_or edges c.loop-edge.edge-index d in
    counts_next c.loop-edge.counts c.more-counts.result edges c.loop-edge.edge-index x c.loop-edge.invariant c.loop-edge-test.true
    (get_or_default edges c.loop-edge.edge-index d x c.loop-edge-test.true) c.more-counts.ensures
