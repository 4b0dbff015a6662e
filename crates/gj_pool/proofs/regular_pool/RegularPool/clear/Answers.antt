use Rattle.std.proofs.Common.{◌-◌, ◌≡◌, ℕ, length, ap, ◌∙◌, arith, List, [], replicate}
use Rattle.gj_pool.specs.Pairs.{pair_lists}
use Rattle.gj_pool.specs.declared.regular_pool.Pair.{Pair}
use Rattle.gj_pool.proofs.PairLemmas.{lists_long}
use Rattle.gj_pool.proofs.regular_pool.RegularPool.clear.Goals as goal

pub returns : goal.returns
returns c =
    let pairs : List Pair = c.self.inside.pairs.items in
    let n : ℕ = c.self.inside.vertices in
    let all : n - 0 ≡ length c.args.self.now = omega (arith, ap length c.self.view_is, lists_long pairs n c.self.invariant.0) in
    record {
      exact = ap (λ (l : List Pair). pair_lists l n) c.clear.ensures.items ∙ ap (λ (m : ℕ). replicate m (let l : List ℕ = [] in l)) all;
    }
