use Rattle.std.proofs.Common.{◌≡◌, ◌≤◌, ◌∙◌, ℕ, zip, All, ap}
use Rattle.std.proofs.lemmas.Result.{IfOk-weaker}
use Rattle.gj_base.specs.Asks.{CountQuery}
use Rattle.gj_count.specs.Sums.{sums_at, AreSums, AreWeights}
use Rattle.gj_count.specs.Weights.{weights_of}
use Rattle.gj_count.proofs.WeightLemmas.{weights_from_sums, weights_in_range}
use Rattle.gj_count.proofs.counting.count_second.Goals as goal

pub returns : goal.returns
returns g c =
    let items = (g.G.Graph.shown c.args.graph.now).items in
    let ask : CountQuery = record { seeds = c.ask.inside.seeds; weights = c.ask.inside.weights; mask = c.ask.inside.mask; least = c.ask.inside.least; top = c.ask.inside.top; proof = c.ask.inside.proof; since = c.ask.inside.since } in
    let sums = sums_at c.in_ok-sums.sums in
    let are : (p : ℕ) → AreSums items ask.mask ask.seeds (zip ask.seeds ask.weights) p (sums p) =
    rw (c.as_slice.ensures, c.as_slice-2.ensures) at c.in_ok-sums.ensures.exact in
    record {
      exact = IfOk-weaker c.weights_in.result (AreWeights ask.least sums) (λ weights. weights ≡ weights_of items c.args.ask.now)
          (λ weights are_weights. weights_from_sums items ask sums weights are_weights are ∙ ap (weights_of items) c.ask.view_is) c.weights_in.ensures;
      in_range = IfOk-weaker c.weights_in.result (AreWeights ask.least sums) (All (λ (pair : ℕ × ℕ). pair.1 ≤ 1000000000))
          (λ weights are_weights. weights_in_range ask.least sums weights are_weights c.in_ok-sums.ensures.within) c.weights_in.ensures;
    }
