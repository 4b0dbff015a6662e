use Rattle.std.proofs.Common.{◌∙◌, ◌||◌, ℕ, ap, sym, nat_eq, take, get_or, rules, refl}
use Rattle.std.specs.HashSet.{contains}
use Rattle.gj_base.specs.declared.side.Side.TheVariants.{User}
use Rattle.gj_base.specs.Edges.{stands_in}
use Rattle.gj_subgraph.specs.Regrouped.{far_at, ends_at}
use Rattle.gj_subgraph.proofs.CountLemmas.{eqb_same}
use Rattle.gj_subgraph.proofs.ListLemmas.{far_none, seed_case, seeds_all, stands_more, user_edges_same}
use Rattle.gj_subgraph.proofs.lists.user_edges.Goals as goal

pub loop-seed-init : goal.loop-seed-init
loop-seed-init g c = record {
  lined = rw (c.new-edges.ensures.near, c.new-edges.ensures.far) refl;
  set = search rules;
  ends = λ u. rw (c.new-edges.ensures.near, c.new-edges.ensures.far) (far_none u);
}

pub loop-seed-preserved : goal.loop-seed-preserved
loop-seed-preserved g c =
    let items = (g.G.Graph.shown c.args.graph.now).items in
    let i = c.loop-seed.seed-index in
    let seed = get_or c.args.seeds.now i 0 in
    let own = λ (u : ℕ). ends_at items User u c.args.mask in
    record {
      lined = c.in_ok-take_seed.ensures.lined;
      set = λ user. c.in_ok-take_seed.ensures.set user ∙ ap (λ b. b || nat_eq seed user) (c.loop-seed.invariant.set user)
          ∙ sym (stands_more c.args.seeds.now i user c.loop-seed-test.true);
      ends = λ u. rw (stands_more c.args.seeds.now i u c.loop-seed-test.true)
          (seed_case (nat_eq seed u) (contains nat_eq c.loop-seed.set seed) (stands_in (take i c.args.seeds.now) u) (far_at c.loop-seed.edges.near.items c.loop-seed.edges.far.items u) _
          (own seed) (own u) (λ e. let same = eqb_same seed u e in (c.loop-seed.invariant.set seed ∙ ap (λ v. stands_in (take i c.args.seeds.now) v) same, ap own same))
          (c.loop-seed.invariant.ends u) (c.in_ok-take_seed.ensures.ends u));
    }

pub returns-clause-same : goal.returns-clause-same
returns-clause-same g c =
    user_edges_same (g.G.Graph.shown c.args.graph.now).items c.args.seeds.now c.args.mask c.loop-seed.edges.near.items c.loop-seed.edges.far.items
    c.loop-seed.invariant.lined
    (λ u. rw (seeds_all c.loop-seed.seed-index c.args.seeds.now c.loop-seed-test.false) at (c.loop-seed.invariant.ends u))
