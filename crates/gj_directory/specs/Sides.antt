-- One side of a directory: its identifiers, and the ends of each. Private to this crate: no public clause cites it.
use Rattle.std.specs.Prelude.{◌≡◌, ℕ, ◌<◌, ◌≤◌, List, length, map, slice_index_or, All}
use Rattle.gj_base.specs.declared.item.Item.{Item}
use Rattle.gj_base.specs.declared.side.Side.{Side}
use Rattle.gj_base.specs.declared.side.Side.TheVariants.{User, Post}
use Rattle.gj_base.specs.Firsts.{HasNoRepeat}
use Rattle.gj_base.specs.Numbered.{named_by}
use Rattle.gj_compact.specs.declared.edge.Edge.{Edge}
use Rattle.gj_compact.specs.Lanes.{Laned, run_of, total_of, sum_of}
use Rattle.gj_compact.specs.Turns.{plain, near, ends_of}
use Rattle.gj_names.specs.Named.{Named}

-- the interaction with another number for its vertex on a side
abbrev pub with_near : Side → Edge → ℕ → Edge
with_near User edge v = record { user = v; post = edge.post; kind = edge.kind; at = edge.at }
with_near Post edge v = record { user = edge.user; post = v; kind = edge.kind; at = edge.at }

-- the numbers of these are known
abbrev pub AreNamed : List ℕ → Side → List Edge → Type 0
AreNamed ids side edges = All (λ (edge : Edge). near side edge < length ids) edges

-- there are as many lists of ends, and counts of others, as there may be names
pub record IsWide (names : Named) (lane : Laned) : Type 0 where
  pub runs : length lane.runs ≡ names.room
  pub fresh : length lane.fresh ≡ names.room

-- the lane has the ends of the interactions that are laid out, and counts those of the others
pub record IsSide (names : Named) (lane : Laned) (side : Side) (full fresh : List Edge) : Type 0 where
  pub wide : IsWide names lane
  pub within : length names.ids ≤ names.room
  pub distinct : HasNoRepeat names.ids
  pub known_full : AreNamed names.ids side full
  pub known_fresh : AreNamed names.ids side fresh
  pub runs : (v : ℕ) → v < names.room → run_of lane.runs v ≡ ends_of full side v
  pub notes : (v : ℕ) → v < names.room → slice_index_or lane.fresh v 0 ≡ length (ends_of fresh side v)
  pub total_full : total_of lane.runs ≡ length full
  pub total_fresh : sum_of lane.fresh ≡ length fresh

-- one more may be named and counted
pub record CanNote (names : Named) (lane : Laned) : Type 0 where
  pub wide : IsWide names lane
  pub spare : length names.ids < names.room
  pub few : sum_of lane.fresh < 8388608

-- the interactions of these
abbrev pub items_of : List ℕ → List ℕ → List Edge → List Item
items_of users posts edges = map (named_by users posts) (map plain edges)

-- the same, by the identifiers of a side and those of the other
abbrev pub items_from : Side → List ℕ → List ℕ → List Edge → List Item
items_from User ids far edges = items_of ids far edges
items_from Post ids far edges = items_of far ids edges
