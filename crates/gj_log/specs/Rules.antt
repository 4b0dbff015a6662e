-- The rule of the book, and what its steps tell.
use Rattle.std.specs.Prelude.{ℕ, suc, ◌≡◌, ◌+◌, ◌≤◌, true, false, List, [], ◌∷◌, ◌++◌, length, replicate}
use Rattle.logbook.specs.Pages.{Cell, Step, View, Book, Named, Nib, nib, may_make, may_write}
use Rattle.gj_base.specs.declared.item.Entry.{Entry}

-- the head, a word that is left at 0, a cell at home for each lot that was added, and a cell that is away for each that may be
abbrev pub cells_of : ℕ → ℕ → List Cell
cells_of n m = (n + m, true) ∷ (0, true) ∷ (replicate n (0, true) ++ replicate m (0, false))

-- the head is the number of all those cells
pub record IsKept (cells : List Cell) (log : List (ℕ × List Entry)) : Type 0 where
  pub waiting : ℕ
  pub words : cells ≡ cells_of (length log) waiting

-- the head of a book: its word under the key 0
abbrev pub head_of : Book → Named
head_of b = record { tracked = true; key = 0; book = b }

-- the right to add the lot with this number
abbrev pub next_nib : ℕ → Nib
next_nib n = nib may_write (suc (suc n)) 0

-- where the number found is the one expected, the next cell may be made
abbrev pub Reserves : Step (ℕ × List Entry) → View (ℕ × List Entry) ℕ → ℕ → View (ℕ × List Entry) ℕ → Type 0
Reserves s v found w = found ≡ s.old → w.1.0 ≡ nib may_make (suc (suc s.old)) 0

-- the lot was added to all that had been seen
abbrev pub Adds : Step (ℕ × List Entry) → View (ℕ × List Entry) ℕ → ℕ → View (ℕ × List Entry) ℕ → Type 0
Adds s v found w = w.0 ≡ v.0 ++ s.ask ∷ []

-- the pen stays, and no more lots were seen or added than come before its own
abbrev pub Confirms : Step (ℕ × List Entry) → View (ℕ × List Entry) ℕ → ℕ → View (ℕ × List Entry) ℕ → Type 0
Confirms s v found w = (w.0 ≡ v.0) × (w.1.0 ≡ v.1.0) × (suc (suc (length v.0)) ≤ v.1.0.key)
