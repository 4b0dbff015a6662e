use Rattle.gj_base.specs.declared.side.Side.TheVariants.{User}
use Rattle.gj_base.specs.Ends.{ends}
use Rattle.std.proofs.Common.{nat_eq, map, take}
use Rattle.gj_subgraph.specs.Regrouped.{far_at}
use Rattle.gj_subgraph.proofs.ListLemmas.{across_more, far_push, grown, lined_push}
use Rattle.gj_subgraph.proofs.lists.add_ends.Goals as goal

pub loop-i-preserved : goal.loop-i-preserved
loop-i-preserved g c =
    let near = c.loop-i.edges.near.items in
    let far = c.loop-i.edges.far.items in
    let user = c.args.user in
    let post = c.edge-post.result.0 in
    let found = ends (g.G.Graph.shown c.args.graph.now).items User user c.args.mask in
    record {
      lined = rw (c.in_ok-push.ensures.near, c.in_ok-push.ensures.far) (lined_push near far user post c.loop-i.invariant.lined);
      ends = λ u. rw (c.in_ok-push.ensures.near, c.in_ok-push.ensures.far, across_more found c.loop-i.i c.edge-post.result c.edge-post.ensures)
          (grown (far_at c.args.edges.now.near.items c.args.edges.now.far.items u) (map (λ e. e.0) (take c.loop-i.i found)) (far_at near far u) _ post (nat_eq user u)
          (c.loop-i.invariant.ends u) (far_push near far user post u c.loop-i.invariant.lined));
    }
