-- How a vertex's first two cells lie in its pair.
use Rattle.std.specs.Prelude.{ℕ, ◌-◌, List, [], ◌++◌, length, map, replicate, take}
use Rattle.gj_pool.specs.declared.regular_pool.Pair.{Pair}

-- the cells that are in use
abbrev pub pair_cells : Pair → List ℕ
pair_cells pair = take pair.degree pair.cells

-- the lists of all vertices: those behind the pairs that there are hold nothing
abbrev pub pair_lists : List Pair → ℕ → List (List ℕ)
pair_lists pairs vertices = map pair_cells pairs ++ replicate (vertices - length pairs) []
