use Rattle.std.proofs.Common.{◌≡◌, ◌-◌, ◌*◌, ◌<◌, ◌^◌, length, sum}
use Rattle.gj_subgraph.specs.Masses.{spread, starting}
use Rattle.gj_subgraph.specs.Numbers.{units_in}
use Rattle.gj_subgraph.proofs.masses.units_of.Given as goal

abbrev pub invariant-loop-i : goal.invariant-loop-i
invariant-loop-i l = record {
  len : length l.units.items ≡ length l.posts.names.items;
  small : sum l.units.items < 2 ^ 31;
  left : spread (2 * (l.iterations - l._i)) l.posts.side.items l.users.side.items (units_in l.posts.names.items l.units.items)
      ≡ spread (2 * l.iterations - 1) l.users.side.items l.posts.side.items (starting l.users.side.items);
}
