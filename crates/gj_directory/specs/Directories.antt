-- What contracts see of a directory.
use Rattle.std.specs.Prelude.{ℕ, List, ◌++◌}
use Rattle.gj_base.specs.declared.item.Item.{Item}
use Rattle.gj_base.specs.declared.side.Side.{Side}
use Rattle.gj_base.specs.declared.side.Side.TheVariants.{User, Post}

-- the interactions that are laid out, those that came after them, how many there may be, the identifiers of each side that
-- have a number, which is the place there, and how many there may be
pub record Directed : Type 0 where
  pub full : List Item
  pub fresh : List Item
  pub room : ℕ
  pub users : List ℕ
  pub posts : List ℕ
  pub names : ℕ

-- all interactions, in order
abbrev pub held : Directed → List Item
held d = d.full ++ d.fresh

-- the identifiers of a side that have a number
abbrev pub ids_of : Directed → Side → List ℕ
ids_of d User = d.users
ids_of d Post = d.posts
