use Rattle.std.proofs.Common.{◌≡◌, ◌≤◌, [], length, take, fold}
use Rattle.gj_base.specs.Firsts.{HasNoRepeat}
use Rattle.gj_subgraph.specs.Masses.{with_vertex}
use Rattle.gj_subgraph.specs.Numbers.{ArePlaced}
use Rattle.gj_subgraph.proofs.number.places_of.Given as goal

abbrev pub invariant-loop-id : goal.invariant-loop-id
invariant-loop-id l = record {
  names : l.names.ids ≡ fold with_vertex [] (take l.id-index l.side);
  distinct : HasNoRepeat l.names.ids;
  few : length l.names.ids ≤ l.id-index;
  room : length l.side ≤ l.names.room;
  places : ArePlaced (take l.id-index l.side) l.names.ids l.places.items;
}
