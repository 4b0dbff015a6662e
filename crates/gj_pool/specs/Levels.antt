-- At which level a place of a vertex's list lies, and what the levels from 1 on cost.
use Rattle.std.specs.Prelude.{ℕ, zero, suc, ◌+◌, ◌^◌, ◌==◌, if◌then◌else◌}

-- the links that lead to place i: one more from each place i on where i + 2 is the next power of two
unfoldable pub hops_to : ℕ → ℕ
hops_to zero = 0
hops_to (suc i) = if i + 3 == 2 ^ (hops_to i + 2) then hops_to i + 1 else hops_to i

-- the cells of the levels from 1 to the given one: at level j a slice of 2 ^ (j + 1) cells, and its link
unfoldable pub levels_to : ℕ → ℕ
levels_to zero = 0
levels_to (suc j) = levels_to j + (2 ^ (j + 2) + 1)

-- the cells of the levels from 1 that hold a list of the given length, links counted: those to the level of its last place
unfoldable pub spent : ℕ → ℕ
spent zero = 0
spent (suc i) = levels_to (hops_to i)
