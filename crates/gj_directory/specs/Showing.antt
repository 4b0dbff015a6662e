-- What a directory shows of its fields. Private to this crate: no public clause cites it.
use Rattle.std.specs.Prelude.{◌≡◌, ◌≤◌, length, take, drop, vec_capacity, All}
use Rattle.std.specs.VecDeque.{deque_capacity}
use Rattle.gj_base.specs.declared.item.Item.{Item}
use Rattle.gj_base.specs.declared.side.Side.{Side}
use Rattle.gj_base.specs.declared.side.Side.TheVariants.{User, Post}
use Rattle.gj_directory.specs.declared.directory.Directory.TheInside.{Inside}
use Rattle.gj_directory.specs.declared.half.Half.{Half}
use Rattle.gj_directory.specs.Counting.{AreCounts}
use Rattle.gj_directory.specs.Directories.{Directed, held}
use Rattle.gj_directory.specs.Sides.{IsSide, items_of}

abbrev pub directed_of : Inside → Directed
directed_of d = record {
  full = items_of d.users.names.ids d.posts.names.ids (take d.full d.edges.items);
  fresh = items_of d.users.names.ids d.posts.names.ids (drop d.full d.edges.items);
  room = d.users.lane.room;
  users = d.users.names.ids;
  posts = d.posts.names.ids;
  names = d.users.names.room;
}

-- the half of a side
abbrev pub half_on : Side → Half → Half → Half
half_on User users posts = users
half_on Post users posts = posts

-- both identifiers and the moment are in their range
abbrev pub IsItem : Item → Type 0
IsItem x = (x.user ≤ 9223372036854775807) × (x.post ≤ 9223372036854775807) × (x.at ≤ 9223372036854775807)

-- a half that has the ends of the interactions on its side
abbrev pub IsHalf : Inside → Side → Half → Type 0
IsHalf d side half = IsSide half.names half.lane side (take d.full d.edges.items) (drop d.full d.edges.items)

-- what stays true of a directory
pub record IsDirectory (d : Inside) : Type 0 where
  pub users : IsHalf d User d.users
  pub posts : IsHalf d Post d.posts
  pub within : d.full ≤ length d.edges.items
  pub few : length d.edges.items ≤ d.users.lane.room
  pub small : d.users.lane.room ≤ 4194304
  pub same : d.posts.lane.room ≡ d.users.lane.room
  pub named : d.posts.names.room ≡ d.users.names.room
  pub reserved : d.users.lane.room ≤ deque_capacity d.edges
  pub saved : d.users.names.room ≤ vec_capacity d.ids
  pub counted : AreCounts d.counts d.edges.items
  pub sane : All IsItem (held (directed_of d))
