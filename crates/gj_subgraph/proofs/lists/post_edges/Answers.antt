use Rattle.std.proofs.Common.{◌∙◌, ℕ, ap, sym, false, nat_eq, take, filter, get_or, refl}
use Rattle.std.specs.HashSet.{contains}
use Rattle.gj_base.specs.declared.side.Side.TheVariants.{Post}
use Rattle.gj_base.specs.Edges.{stands_in}
use Rattle.gj_subgraph.specs.Regrouped.{far_at, ends_at}
use Rattle.gj_subgraph.proofs.CountLemmas.{eqb_same}
use Rattle.gj_subgraph.proofs.ListLemmas.{far_none, seed_case, stands_more, stands_once}
use Rattle.gj_subgraph.proofs.lists.post_edges.Goals as goal

pub loop-post-init : goal.loop-post-init
loop-post-init g c = record {
  lined = rw (c.new-edges.ensures.near, c.new-edges.ensures.far) refl;
  ends = λ p. rw (c.new-edges.ensures.near, c.new-edges.ensures.far) (far_none p);
}

pub loop-post-preserved : goal.loop-post-preserved
loop-post-preserved g c =
    let items = (g.G.Graph.shown c.args.graph.now).items in
    let i = c.loop-post.post-index in
    let posts = c.args.posts.now in
    let post = get_or posts i 0 in
    let own = λ (p : ℕ). filter (contains nat_eq c.args.seeds.now) (ends_at items Post p c.args.mask) in
    record {
      lined = c.in_ok-add_seed_ends.ensures.lined;
      ends = λ p. rw (stands_more posts i p c.loop-post-test.true)
          (seed_case (nat_eq post p) false (stands_in (take i posts) p) (far_at c.loop-post.edges.near.items c.loop-post.edges.far.items p) _
          (own post) (own p) (λ e. let same = eqb_same post p e in
          (sym (stands_once posts i c.requires c.loop-post-test.true) ∙ ap (λ v. stands_in (take i posts) v) same, ap own same))
          (c.loop-post.invariant.ends p) (c.in_ok-add_seed_ends.ensures.ends p));
    }
