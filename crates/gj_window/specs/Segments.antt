-- What contracts see of the segments of a window, and what their fields keep.
use Rattle.std.specs.Prelude.{◌≡◌, ℕ, ◌+◌, ◌*◌, ◌/◌, ◌<◌, ◌≤◌, ◌==◌, List, ◌++◌, length, if◌then◌else◌}
use Rattle.gj_base.specs.declared.item.Item.{Item}
use Rattle.gj_base.specs.declared.history.Shown.{Shown}
use Rattle.gj_base.specs.declared.side.Side.{Side}
use Rattle.gj_base.specs.declared.side.Side.TheVariants.{User, Post}
use Rattle.gj_base.specs.Configuration.{Configuration, IsConfiguration}
use Rattle.gj_window.specs.declared.segments.Segments.TheInside.{Inside}

-- the interactions of the segments that are laid out, of the full segment that is in pool form, and of the newest one; and
-- the identifiers that have numbers
pub record Segmented : Type 0 where
  pub conf : Configuration
  pub full : List Item
  pub older : List Item
  pub newest : List Item
  pub users : List ℕ
  pub posts : List ℕ

abbrev pub seen_of : Inside → Segmented
seen_of s = record {
  conf = s.conf;
  full = s.directory.full;
  older = s.older.items;
  newest = s.newest.items;
  users = s.directory.users;
  posts = s.directory.posts;
}

-- all interactions, in order
abbrev pub items_of : Segmented → List Item
items_of s = s.full ++ (s.older ++ s.newest)

-- the identifiers of a side that have numbers
abbrev pub names_on : Segmented → Side → List ℕ
names_on s User = s.users
names_on s Post = s.posts

-- 1, where there is any interaction
abbrev pub any_of : List Item → ℕ
any_of items = if length items == 0 then 0 else 1

-- the retained segments in pool form; an empty one is none
abbrev pub pooled_in : Segmented → ℕ
pooled_in s = any_of s.older + any_of s.newest

-- the retained segments in contiguous form
abbrev pub contiguous_in : Segmented → ℕ
contiguous_in s = length s.full / s.conf.capacity

-- what is shown of segments whose first interaction stands at a place
abbrev pub shown_from : ℕ → Segmented → Shown
shown_from first s = record { capacity = s.conf.capacity; segments = s.conf.segments; first = first; items = items_of s }

-- how many of the oldest interactions go when one more comes: a segment, where the window is full
abbrev pub going : Segmented → ℕ
going s = if length (items_of s) == s.conf.capacity * s.conf.segments then s.conf.capacity else 0

-- the older segment is full or unused, and unused where the newest is full; once the newest has begun, the identifiers of its
-- interactions to come have room
pub record IsSegmented (s : Inside) : Type 0 where
  pub conf : IsConfiguration s.conf.capacity s.conf.segments
  pub tied : s.directory.fresh ≡ s.older.items ++ s.newest.items
  pub older_room : s.older.room ≡ s.conf.capacity
  pub newest_room : s.newest.room ≡ s.conf.capacity
  pub aligned : length s.directory.full ≡ s.conf.capacity * s.whole
  pub older_full : 0 < length s.older.items → length s.older.items ≡ s.conf.capacity
  pub newest_few : length s.newest.items ≤ s.conf.capacity
  pub few : length s.older.items + length s.newest.items < s.conf.capacity + s.conf.capacity
  pub within : length s.directory.full + (length s.older.items + length s.newest.items) ≤ s.conf.capacity * s.conf.segments
  pub room : s.directory.room ≡ s.conf.capacity * s.conf.segments
  pub names : s.directory.room + s.conf.capacity ≤ s.directory.names
  pub users : 0 < length s.newest.items → length s.directory.users + s.conf.capacity ≤ s.directory.names + length s.newest.items
  pub posts : 0 < length s.newest.items → length s.directory.posts + s.conf.capacity ≤ s.directory.names + length s.newest.items
