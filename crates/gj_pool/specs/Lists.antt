-- One list of cells per vertex, as contracts see a pool.
use Rattle.std.specs.Prelude.{ℕ, List, [], ◌∷◌, ◌++◌, slice_index_or, slice_set}

-- the cells of vertex v, in the order of their pushes
abbrev pub cells_of : List (List ℕ) → ℕ → List ℕ
cells_of lists v = slice_index_or lists v []

-- the lists after one more cell for vertex v
abbrev pub appended : List (List ℕ) → ℕ → ℕ → List (List ℕ)
appended lists v cell = slice_set lists v (cells_of lists v ++ cell ∷ [])
