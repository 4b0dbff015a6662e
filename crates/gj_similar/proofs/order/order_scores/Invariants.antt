use Rattle.std.proofs.Common.{◌≡◌, ℕ, ◌<◌, ◌≤◌, [], length, take, map, fold, All}
use Rattle.std.specs.BTreeSet.{insert_key}
use Rattle.gj_similar.specs.Scored.{score_cmp}
use Rattle.gj_similar.specs.Similar.{score_at, AreScorable}
use Rattle.gj_similar.proofs.order.order_scores.Given as goal

abbrev pub invariant-loop-post : goal.invariant-loop-post
invariant-loop-post g l =
    let items = (g.G.Graph.shown l.graph).items in
    record {
      best : take l.top (fold (insert_key score_cmp) l.best.keys (map (score_at items l.mask) l.post-iterator))
          ≡ take l.top (fold (insert_key score_cmp) [] (map (score_at items l.mask) l.shared));
      few : length l.best.keys ≤ l.top;
      scorable : AreScorable items l.mask l.post-iterator;
      above : All (λ (pair : ℕ × ℕ). 0 < pair.1) l.post-iterator;
    }
