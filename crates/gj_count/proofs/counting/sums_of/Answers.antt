use Rattle.std.proofs.Common.{◌≡◌, ℕ, List, take, zip, arith, subst}
use Rattle.std.proofs.lemmas.List.{take_all}
use Rattle.std.proofs.lemmas.Slice.Zip.{length-zip}
use Rattle.gj_count.specs.Sums.{sums_at, AreSums}
use Rattle.gj_count.proofs.SumLemmas.{sums_more}
use Rattle.gj_count.proofs.counting.sums_of.Goals as goal

pub loop-i-preserved : goal.loop-i-preserved
loop-i-preserved g c =
    let items = (g.G.Graph.shown c.args.graph.now).items in
    record {
      within = c.in_ok-add_seed.ensures.within;
      sums = λ p. sums_more items c.args.mask c.args.seeds.now c.args.weights.now c.loop-i.i p (sums_at c.loop-i.sums p) (sums_at c.add_seed.new.sums p)
          c.loop-i-test.true (omega arith) (c.loop-i.invariant.within p) (c.loop-i.invariant.sums p) (c.in_ok-add_seed.ensures.sums p);
    }

pub returns-clause-exact : goal.returns-clause-exact
returns-clause-exact g c = λ p.
    let items = (g.G.Graph.shown c.args.graph.now).items in
    let i = c.loop-i.i in
    let seeds = c.args.seeds.now in
    let pairs = zip c.args.seeds.now c.args.weights.now in
    let one : take i seeds ≡ seeds = take_all i seeds c.loop-i-test.false in
    let two : take i pairs ≡ pairs = take_all i pairs (omega (arith, length-zip c.args.seeds.now c.args.weights.now)) in
    subst (λ (xs : List ℕ). AreSums items c.args.mask xs pairs p (sums_at c.loop-i.sums p)) one
    (subst (λ (ps : List (ℕ × ℕ)). AreSums items c.args.mask (take i seeds) ps p (sums_at c.loop-i.sums p)) two (c.loop-i.invariant.sums p))
