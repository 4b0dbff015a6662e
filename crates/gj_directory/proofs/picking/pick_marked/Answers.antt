use Rattle.gj_directory.proofs.PickLemmas.{edge_sane, picked_next}
use Rattle.gj_directory.proofs.picking.pick_marked.Goals as goal

pub keep_marked-requires-clause-sane : goal.keep_marked-requires-clause-sane
keep_marked-requires-clause-sane c = edge_sane c.args.users.now.ids c.args.posts.now.ids c.args.edges.now c.loop-edge.edge-index c.requires.sane c.loop-edge-test.true

pub loop-edge-preserved : goal.loop-edge-preserved
loop-edge-preserved c =
    rw (picked_next c.args.users.now.ids c.args.posts.now.ids c.args.marks.now c.args.mask c.args.edges.now c.loop-edge.edge-index c.args.picked.now.items c.loop-edge-test.true, ← c.loop-edge.invariant)
    c.in_ok-keep_marked.ensures
