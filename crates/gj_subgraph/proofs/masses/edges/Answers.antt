use Rattle.std.proofs.Common.{◌∙◌, ap}
use Rattle.gj_base.specs.declared.item.Item.{Item}
use Rattle.gj_subgraph.specs.Masses.{users_of, posts_of}
use Rattle.gj_subgraph.proofs.MassLemmas.{column_more, column_whole}
use Rattle.gj_subgraph.proofs.masses.edges.Goals as goal

pub loop-edge-preserved : goal.loop-edge-preserved
loop-edge-preserved g c =
    let found = c.deref-edge-items.result.now in
    record {
      users = column_more (λ x. x.user) found c.loop-edge.edge-index c.edge-item.result c.loop-edge.users.items c.push.new.values.items c.edge.inside.user c.loop-edge-test.true
          c.edge-item.is (ap (λ (x : Item). x.user) c.edge.view_is) c.loop-edge.invariant.users c.in_ok-push.ensures;
      posts = column_more (λ x. x.post) found c.loop-edge.edge-index c.edge-item.result c.loop-edge.posts.items c.push-in-loop-edge.new.values.items c.edge.inside.post c.loop-edge-test.true
          c.edge-item.is (ap (λ (x : Item). x.post) c.edge.view_is) c.loop-edge.invariant.posts c.in_ok-push-2.ensures;
    }

pub returns-clause-users : goal.returns-clause-users
returns-clause-users g c =
    c.loop-edge.invariant.users ∙ (column_whole (λ x. x.user) c.deref-edge-items.result.now c.loop-edge.edge-index c.loop-edge-test.false
    ∙ ap users_of (c.deref-edge-items.ensures.value ∙ c.in_ok-found.ensures))

pub returns-clause-posts : goal.returns-clause-posts
returns-clause-posts g c =
    c.loop-edge.invariant.posts ∙ (column_whole (λ x. x.post) c.deref-edge-items.result.now c.loop-edge.edge-index c.loop-edge-test.false
    ∙ ap posts_of (c.deref-edge-items.ensures.value ∙ c.in_ok-found.ensures))
