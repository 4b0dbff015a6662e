use Rattle.std.proofs.Common.{◌++◌, codes}
use Rattle.gj_reply.specs.Arrays.{edge_text}
use Rattle.gj_reply.proofs.ArrayLemmas.{grown_at}
use Rattle.gj_reply.proofs.arrays.put_edges.Goals as goal

pub loop-i-preserved : goal.loop-i-preserved
loop-i-preserved c =
    grown_at (edge_text c.args.across.now) c.args.recent.now c.loop-i.i _ (c.args.out.now.items ++ codes "[") _ _ _
    c.loop-i-test.true c.loop-i.invariant c.in_ok-put_comma.ensures c.in_ok-put_edge.ensures
