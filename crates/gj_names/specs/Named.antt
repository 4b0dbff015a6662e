-- The numbering of identifiers: each has the place at which it first appeared.
use Rattle.std.specs.Prelude.{ℕ, ◌≤◌, List, length}
use Rattle.gj_base.specs.Firsts.{HasNoRepeat}

-- distinct identifiers in the order of their first appearance, and how many there may be at most
pub record Named : Type 0 where
  pub ids : List ℕ
  pub room : ℕ

-- what each numbering keeps: a room of 1 to 8388608 that the list does not pass, and no identifier twice
pub record IsNamed (named : Named) : Type 0 where
  pub any : 1 ≤ named.room
  pub fits : named.room ≤ 8388608
  pub within : length named.ids ≤ named.room
  pub distinct : HasNoRepeat named.ids
