use Rattle.std.proofs.Common.{◌≡◌, ◌≤◌, ◌-◌, take, drop}
use Rattle.gj_follow.proofs.paging.items_from.Given as goal

-- those before the place
abbrev pub invariant-loop-place : goal.invariant-loop-place
invariant-loop-place g l = record {
  low : l.from ≤ l.place;
  high : l.place ≤ l.end;
  items : l.items ≡ take (l.place - l.from) (drop (l.from - (g.G.Graph.shown l.graph).first) (g.G.Graph.shown l.graph).items);
}

abbrev pub decreases-loop-place : goal.decreases-loop-place
decreases-loop-place g l = l.end - l.place
