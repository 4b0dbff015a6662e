-- What a compact segment shows of its fields.
use Rattle.std.specs.Prelude.{◌≡◌, ℕ, ◌<◌, ◌≤◌, List, length, map}
use Rattle.std.specs.Vec.{vec_capacity}
use Rattle.gj_base.specs.declared.item.Item.{Item}
use Rattle.gj_base.specs.declared.side.Side.{Side}
use Rattle.gj_base.specs.declared.side.Side.TheVariants.{User, Post}
use Rattle.gj_base.specs.Numbered.{named_by, numbered, vertices_of}
use Rattle.gj_compact.specs.declared.edge.Edge.{Edge}
use Rattle.gj_compact.specs.declared.part.Part.{Part}
use Rattle.gj_compact.specs.declared.compact_segment.CompactSegment.TheInside.{Inside}
use Rattle.gj_compact.specs.Lanes.{run_of}
use Rattle.gj_compact.specs.Sums.{AreCounts, edge_kind}
use Rattle.gj_compact.specs.Turns.{ends_of, plain}

-- the interactions of a segment, and how many it may hold
pub record Segment : Type 0 where
  pub items : List Item
  pub room : ℕ

-- the interactions of these edges
abbrev pub items_of : List ℕ → List ℕ → List Edge → List Item
items_of users posts edges = map (named_by users posts) (map plain edges)

abbrev pub shown_by : Inside → Segment
shown_by s = record { items = items_of s.users.ids.ids s.posts.ids.ids s.edges.items; room = s.room }

-- the part on a side
abbrev pub part_on : Side → Part → Part → Part
part_on User users posts = users
part_on Post users posts = posts

-- a part for that many interactions
pub record IsRoomy (part : Part) (room : ℕ) : Type 0 where
  pub ids : part.ids.room ≡ room
  pub long : length part.lane.runs ≡ room
  pub size : part.lane.room ≡ room

-- the lane has the ends of the edges
abbrev pub HasEnds : Part → Side → List Edge → ℕ → Type 0
HasEnds part side edges room = (v : ℕ) → v < room → run_of part.lane.runs v ≡ ends_of edges side v

-- a part that numbers the side's vertices, and has the ends of each
pub record IsPart (part : Part) (side : Side) (items : List Item) (edges : List Edge) (room : ℕ) : Type 0 where
  pub roomy : IsRoomy part room
  pub named : part.ids.ids ≡ vertices_of items side
  pub ends : HasEnds part side edges room

-- both parts and the edges are those of the interactions that are shown
pub record IsCompact (s : Inside) : Type 0 where
  pub any : 1 ≤ s.room
  pub fits : s.room ≤ 65536
  pub few : length s.edges.items ≤ s.room
  pub held : s.room ≤ vec_capacity s.edges
  pub numbers : map plain s.edges.items ≡ numbered (shown_by s).items
  pub counted : AreCounts s.kinds (map edge_kind s.edges.items)
  pub users : IsPart s.users User (shown_by s).items s.edges.items s.room
  pub posts : IsPart s.posts Post (shown_by s).items s.edges.items s.room
