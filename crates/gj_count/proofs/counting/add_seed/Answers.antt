use Rattle.gj_base.specs.declared.side.Side.TheVariants.{User}
use Rattle.gj_base.specs.Ends.{ends}
use Rattle.gj_count.specs.Sums.{sums_at}
use Rattle.gj_count.proofs.SumLemmas.{ends_more}
use Rattle.gj_count.proofs.counting.add_seed.Goals as goal

pub loop-i-preserved : goal.loop-i-preserved
loop-i-preserved g c =
    let found = ends (g.G.Graph.shown c.args.graph.now).items User c.args.seed c.args.mask in
    record {
      within = c.in_ok-add_end.ensures.within;
      sums = λ p. ends_more found c.loop-i.i c.edge-post.result c.args.turn c.args.weight p (sums_at c.args.sums.now p) (sums_at c.loop-i.sums p)
          (sums_at c.add_end.new.sums p) c.edge-post.ensures (c.loop-i.invariant.sums p) (c.in_ok-add_end.ensures.sums p);
    }
