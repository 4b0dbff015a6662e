use Rattle.std.proofs.Common.{◌≡◌, ◌||◌, ℕ, nat_eq, take}
use Rattle.std.specs.HashSet.{contains}
use Rattle.gj_proof.specs.Ranking.{meets}
use Rattle.gj_proof.proofs.across.add_known.Given as goal

abbrev pub invariant-loop-seed : goal.invariant-loop-seed
invariant-loop-seed g l =
    (post : ℕ) → contains nat_eq l.posts post
    ≡ (contains nat_eq l.fn.posts post || meets (g.G.Graph.shown l.graph).items (take l.seed-index l.seeds) l.mask post)
