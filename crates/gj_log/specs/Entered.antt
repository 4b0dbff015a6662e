-- What entered a history: its lots, and what the scribe has of them.
use Rattle.std.specs.Prelude.{ℕ, Bool, List, [], ◌∷◌, ◌++◌}
use Rattle.gj_base.specs.declared.item.Entry.{Entry}
use Rattle.gj_base.specs.declared.history.History.{History}
use Rattle.gj_base.specs.History.{empty_history}

-- the entries of lots, one lot after another
abbrev pub flat : List (ℕ × List Entry) → List Entry
flat [] = []
flat (lot ∷ lots) = lot.1 ++ flat lots

-- where the first lot begins
abbrev pub first_of : List (ℕ × List Entry) → ℕ
first_of [] = 0
first_of (lot ∷ lots) = lot.0

-- the history of lots
abbrev pub history_of : List (ℕ × List Entry) → History
history_of lots = record { first = first_of lots; entries = flat lots }

-- the history of the first lot
abbrev pub first_lot : List (ℕ × List Entry) → History
first_lot [] = empty_history 0
first_lot (lot ∷ lots) = record { first = lot.0; entries = lot.1 }

-- the writer of a history: what it began with, what it is now, and whether there is room for one more batch
pub record ScribeView : Type 0 where
  pub opening : History
  pub history : History
  pub ready : Bool
