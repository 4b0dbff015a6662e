-- What contracts see of an edge pool.
use Rattle.std.specs.Prelude.{◌≡◌, ℕ, ◌+◌, ◌-◌, ◌*◌, ◌<◌, ◌≤◌, List, [], ◌∷◌, ◌++◌, length, ◌⊎◌}
use Rattle.std.specs.List.{sum_by}
use Rattle.gj_pool.specs.Lists.{cells_of}

-- one list of cells per vertex, and the number of pushes that are allowed between two clears
pub record Pooled : Type 0 where
  pub lists : List (List ℕ)
  pub edges : ℕ

-- the pushes since the last clear
abbrev pub total_of : List (List ℕ) → ℕ
total_of lists = sum_by (λ (l : List ℕ). length l) lists

-- the pushes that are left
abbrev pub left_of : Pooled → ℕ
left_of pool = pool.edges - total_of pool.lists

-- each list of the first followed by the one at its place in the second
unfoldable pub joined : List (List ℕ) → List (List ℕ) → List (List ℕ)
joined [] more = []
joined (l ∷ lists) [] = []
joined (l ∷ lists) (m ∷ more) = (l ++ m) ∷ joined lists more

-- the first cells of each vertex, and those past level 0, of which there are none before the first are two
pub record ArePaired (regular more : List (List ℕ)) : Type 0 where
  pub long : length regular ≡ length more
  pub begun : (v : ℕ) → v < length regular → (cells_of more v ≡ []) ⊎ (length (cells_of regular v) ≡ 2)
  pub small : (v : ℕ) → v < length regular → length (cells_of regular v) ≤ 2

-- what stays true of a pool
pub record IsPool (regular more : List (List ℕ)) (room edges left : ℕ) : Type 0 where
  pub paired : ArePaired regular more
  pub limit : edges ≤ 65536
  pub whole : room ≡ 3 * edges
  pub counted : left + total_of (joined regular more) ≡ edges
