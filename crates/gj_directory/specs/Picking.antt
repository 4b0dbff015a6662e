-- The interactions of some users, by numbers. Private to this crate: no public clause cites it.
use Rattle.std.specs.Prelude.{◌≡◌, ℕ, ◌<◌, ◌&&◌, Bool, false, List, length, slice_index, slice_index_or}
use Rattle.gj_base.specs.declared.mask.Mask.{Mask}
use Rattle.gj_base.specs.Edges.{stands_in}
use Rattle.gj_base.specs.Kinds.{lets}
use Rattle.gj_compact.specs.declared.edge.Edge.{Edge}

-- for each number, whether its identifier stands among the users
pub record AreMarks (ids users : List ℕ) (marks : List Bool) : Type 0 where
  pub same_len : length marks ≡ length ids
  pub marked : (v : ℕ) → v < length ids → slice_index_or marks v false ≡ stands_in users (slice_index ids v)

-- the number of the interaction's user is marked, and it is eligible
abbrev pub is_marked : List Bool → Mask → Edge → Bool
is_marked marks mask edge = slice_index_or marks edge.user false && lets mask edge.kind edge.at
