use Rattle.std.proofs.Common.{◌≡◌, ℕ, ◌≤◌, not, nat_eq, take, filter, fold, vec_len}
use Rattle.std.specs.HashSet.{contains}
use Rattle.gj_proof.specs.Ranking.{placed, by_rank, AreByRank}
use Rattle.gj_proof.proofs.best.best_of.Given as goal

abbrev pub invariant-loop-post : goal.invariant-loop-post
invariant-loop-post l =
    let keep = λ (pair : ℕ × ℕ). not (contains nat_eq l.hidden pair.0) in
    record {
      so_far : take l.top (fold placed l.best.items (filter keep l.post-iterator)) ≡ take l.top (by_rank (filter keep l.scores.entries));
      ordered : AreByRank l.best.items;
      few : vec_len l.best ≤ l.top;
    }
