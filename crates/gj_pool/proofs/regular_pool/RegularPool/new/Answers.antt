use Rattle.std.proofs.Common.{◌-◌, ◌≡◌, ℕ, ap, ◌∙◌, arith, List, [], replicate}
use Rattle.gj_pool.specs.Pairs.{pair_lists}
use Rattle.gj_pool.specs.declared.regular_pool.Pair.{Pair}
use Rattle.gj_pool.proofs.regular_pool.RegularPool.new.Goals as goal

pub returns-in-Ok : goal.returns-in-Ok
returns-in-Ok c =
    let all : c.args.vertices - 0 ≡ c.args.vertices = omega arith in
    record {
      ok = ap (λ (l : List Pair). pair_lists l c.args.vertices) c.in-Ok.ensures.items ∙ ap (λ (n : ℕ). replicate n (let l : List ℕ = [] in l)) all;
    }
