-- The numbering of identifiers: each has the place at which it first appeared.
use Rattle.std.specs.Prelude.{ℕ, ◌≤◌, List, length}
use Rattle.gj_base.specs.Firsts.{HasNoRepeat}

-- distinct identifiers in the order of their first appearance, and how many there may be at most
pub record Numbering : Type 0 where
  pub ids : List ℕ
  pub room : ℕ

-- what each numbering keeps: a room of 1 to 65536 that the list does not pass, and no identifier twice
pub record IsNumbering (numbering : Numbering) : Type 0 where
  pub any : 1 ≤ numbering.room
  pub fits : numbering.room ≤ 65536
  pub within : length numbering.ids ≤ numbering.room
  pub distinct : HasNoRepeat numbering.ids
