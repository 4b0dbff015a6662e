-- What a pool segment shows of its fields.
use Rattle.std.specs.Prelude.{ℕ, ◌≤◌, List, map}
use Rattle.std.specs.Vec.{vec_capacity}
use Rattle.gj_base.specs.declared.item.Item.{Item}
use Rattle.gj_base.specs.declared.side.Side.TheVariants.{User, Post}
use Rattle.gj_base.specs.Ends.{vertex_on}
use Rattle.gj_base.specs.Numbered.{named_by}
use Rattle.gj_segment.specs.declared.edge.Edge.{Edge}
use Rattle.gj_segment.specs.declared.pool_segment.PoolSegment.TheInside.{Inside}
use Rattle.gj_segment.specs.Halves.{IsHalf}

-- the interactions of a segment, and how many it may hold
pub record Segment : Type 0 where
  pub items : List Item
  pub room : ℕ

-- an interaction by numbers
abbrev pub plain : Edge → Item
plain edge = record { user = edge.user; post = edge.post; kind = edge.kind; at = edge.at }

-- the interactions of these edges
abbrev pub items_of : List ℕ → List ℕ → List Edge → List Item
items_of users posts edges = map (named_by users posts) (map plain edges)

abbrev pub shown_by : Inside → Segment
shown_by s = record { items = items_of s.users.ids.ids s.posts.ids.ids s.edges.items; room = s.room }

-- both sides are those of the edges
pub record IsSegment (s : Inside) : Type 0 where
  pub users : IsHalf s.users.ids s.users.places (map (vertex_on User) (map plain s.edges.items)) s.room
  pub posts : IsHalf s.posts.ids s.posts.places (map (vertex_on Post) (map plain s.edges.items)) s.room
  pub held : s.room ≤ vec_capacity s.edges
