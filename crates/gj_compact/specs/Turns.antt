-- The ends that interactions by numbers give to a vertex.
use Rattle.std.specs.Prelude.{◌≡◌, ℕ, ◌<◌, ◌≤◌, ◌==◌, Bool, List, length, map, filter, take, slice_index_or}
use Rattle.gj_base.specs.declared.item.Item.{Item}
use Rattle.gj_base.specs.declared.side.Side.{Side}
use Rattle.gj_base.specs.declared.side.Side.TheVariants.{User, Post}
use Rattle.gj_compact.specs.declared.edge.Edge.{Edge}
use Rattle.gj_compact.specs.declared.edge.End.{End}
use Rattle.gj_compact.specs.Lanes.{Laned, run_of}

-- an interaction by numbers
abbrev pub plain : Edge → Item
plain edge = record { user = edge.user; post = edge.post; kind = edge.kind; at = edge.at }

-- the number of the interaction's vertex on a side
abbrev pub near : Side → Edge → ℕ
near User edge = edge.user
near Post edge = edge.post

-- where it leads from that side
abbrev pub across : Side → Edge → End
across User edge = record { vertex = edge.post; kind = edge.kind; at = edge.at }
across Post edge = record { vertex = edge.user; kind = edge.kind; at = edge.at }

-- it is at the vertex
abbrev pub is_at : Side → ℕ → Edge → Bool
is_at side v edge = near side edge == v

-- the ends of vertex v among these interactions, in order
unfoldable pub ends_of : List Edge → Side → ℕ → List End
ends_of edges side v = map (across side) (filter (is_at side v) edges)

-- each of these has a list in the lane
abbrev pub AreKnown : Laned → Side → List Edge → Type 0
AreKnown lane side edges = (i : ℕ) (d : Edge) → i < length edges → near side (slice_index_or edges i d) < length lane.runs

-- each vertex has room for its ends among these
abbrev pub HasRoom : Laned → Side → List Edge → Type 0
HasRoom lane side edges = (v : ℕ) → v < length lane.runs → length (ends_of edges side v) ≤ slice_index_or lane.spare v 0

-- each vertex begins with its ends among these
abbrev pub BeginsWith : Laned → Side → List Edge → Type 0
BeginsWith lane side edges = (v : ℕ) → v < length lane.runs → take (length (ends_of edges side v)) (run_of lane.runs v) ≡ ends_of edges side v
