use Rattle.gj_base.specs.declared.side.Side.TheVariants.{Post}
use Rattle.gj_base.specs.Ends.{ends}
use Rattle.std.proofs.Common.{◌∙◌, ap, nat_eq, map, filter, take}
use Rattle.std.specs.HashSet.{contains}
use Rattle.gj_subgraph.specs.Regrouped.{far_at}
use Rattle.gj_subgraph.proofs.ListLemmas.{across_more, filter_push, kept_far, kept_lined, grown_some}
use Rattle.gj_subgraph.proofs.lists.add_seed_ends.Goals as goal

pub loop-i-preserved : goal.loop-i-preserved
loop-i-preserved g c =
    let near = c.loop-i.edges.near.items in
    let far = c.loop-i.edges.far.items in
    let post = c.args.post in
    let user = c.edge-user.result.0 in
    let among = contains nat_eq c.args.seeds.now in
    let found = ends (g.G.Graph.shown c.args.graph.now).items Post post c.args.mask in
    let front = map (λ e. e.0) (take c.loop-i.i found) in
    let more = ap (filter among) (across_more found c.loop-i.i c.edge-user.result c.edge-user.ensures) ∙ filter_push among front user in
    record {
      lined = kept_lined near far _ _ post user (among user) c.in_ok-keep_end.ensures.near c.in_ok-keep_end.ensures.far c.loop-i.invariant.lined;
      ends = λ p. rw more
          (grown_some (far_at c.args.edges.now.near.items c.args.edges.now.far.items p) (filter among front) (far_at near far p) _ user (nat_eq post p) (among user)
          (c.loop-i.invariant.ends p) (kept_far near far _ _ post user p (among user) c.in_ok-keep_end.ensures.near c.in_ok-keep_end.ensures.far c.loop-i.invariant.lined));
    }
