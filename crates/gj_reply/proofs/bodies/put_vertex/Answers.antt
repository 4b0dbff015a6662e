use Rattle.std.proofs.Common.{◌++◌, codes, map}
use Rattle.std.specs.Fmt.{decimal}
use Rattle.gj_reply.specs.Arrays.{array, edge_text}
use Rattle.gj_reply.specs.Bodies.{vertex_text}
use Rattle.gj_reply.proofs.PieceLemmas.{ended, regrouped_nine}
use Rattle.gj_reply.proofs.bodies.put_vertex.Goals as goal

pub returns : goal.returns
returns c =
    ended c.put-2.result c.put_edges.new.out.items c.put-2.new.out.items (codes "}")
    (c.args.out.now.items
    ++ vertex_text c.args.side.now c.args.across.now c.args.length c.args.id c.args.degree c.args.recent.now)
    c.put-2.ensures
    (rw (c.in_ok-put_edges.ensures, c.in_ok-put.ensures, c.in_ok-put_member-3.ensures, c.in_ok-put_member-2.ensures, c.in_ok-put_member.ensures) (
    regrouped_nine c.args.out.now.items (codes "{\"length\":") (decimal c.args.length) c.args.side.now (decimal c.args.id)
    (codes ",\"degree\":") (decimal c.args.degree) (codes ",\"recent\":")
    (array (map (edge_text c.args.across.now) c.args.recent.now)) (codes "}")
    ))
