-- How the cells of the levels from 1 on lie in their array. Places count from the first past level 0, slices from 0.
use Rattle.std.specs.Prelude.{◌≡◌, ℕ, zero, suc, ◌+◌, ◌-◌, ◌*◌, ◌<◌, ◌≤◌, List, ◌++◌, length, map, replicate, slice_index, slice_index_or}
use Rattle.std.specs.List.{range_with_len, sum_by}
use Rattle.gj_pool.specs.Levels.{hops_to, spent}
use Rattle.gj_pool.specs.declared.slices.Row.{Row}

-- what contracts see of the slices: one list per vertex, and the number of cells of the array
pub record Sliced : Type 0 where
  pub lists : List (List ℕ)
  pub room : ℕ

-- the whole array: the cells behind those that are cut are zeros that nobody wrote yet
abbrev pub array_of : List ℕ → ℕ → List ℕ
array_of cells room = cells ++ replicate (room - length cells) 0

-- the cells of a slice
unfoldable pub slice_size : ℕ → ℕ
slice_size zero = 4
slice_size (suc m) = 2 * slice_size m

-- where a slice starts: the link cell after each slice names the start of the next
unfoldable pub slice_start : List ℕ → ℕ → ℕ → ℕ
slice_start cells first zero = first
slice_start cells first (suc m) = slice_index cells (slice_start cells first m + slice_size m)

-- the slice of a place
unfoldable pub slice_of : ℕ → ℕ
slice_of place = hops_to (place + 2) - 1

-- where a place lies
unfoldable pub address_of : List ℕ → ℕ → ℕ → ℕ
address_of cells first place = slice_start cells first (slice_of place) + (place + 4 - slice_size (slice_of place))

-- the cells that a vertex holds
unfoldable pub row_cells : List ℕ → ℕ → ℕ → List ℕ
row_cells cells first degree = map (λ place. slice_index cells (address_of cells first place)) (range_with_len 0 degree)

-- the number of slices of a vertex that holds the given number of places
unfoldable pub slices_for : ℕ → ℕ
slices_for degree = hops_to (degree + 1)

-- the first n slices of vertex v lie below `used`, and hold no cell that is another's
pub record RowKeeps (cells : List ℕ) (used : ℕ) (whose which : ℕ → ℕ) (v n first degree next : ℕ) : Type 0 where
  pub fits : degree + 4 ≤ slice_size n
  pub begun : (m : ℕ) → suc m ≡ n → slice_size m ≤ degree + 4
  pub next_is : (m : ℕ) → suc m ≡ n → next + slice_size m ≡ slice_start cells first m + (degree + 4)
  pub inside : (m : ℕ) → m < n → slice_start cells first m + slice_size m < used
  pub owned : (m o : ℕ) → m < n → o ≤ slice_size m → whose (slice_start cells first m + o) ≡ v
  pub placed : (m o : ℕ) → m < n → o ≤ slice_size m → which (slice_start cells first m + o) ≡ m

-- a row with the slices that its degree needs
pub record IsRow (cells : List ℕ) (used : ℕ) (whose which : ℕ → ℕ) (v : ℕ) (row : Row) : Type 0 where
  pub full : row.full + 4 ≡ slice_size (slices_for row.degree)
  pub keeps : RowKeeps cells used whose which v (slices_for row.degree) row.first row.degree row.next

-- each cell below `used` has at most one owner: a slice of a vertex
pub record AreApart (rows : List Row) (cells : List ℕ) (used : ℕ) : Type 0 where
  pub whose : ℕ → ℕ
  pub which : ℕ → ℕ
  pub each : (v : ℕ) (d : Row) → v < length rows → IsRow cells used whose which v (slice_index_or rows v d)

-- what stays true of the rows and the array
pub record AreSlices (rows : List Row) (cells : List ℕ) (used : ℕ) : Type 0 where
  pub small : length cells ≤ 196608
  pub within : used ≤ length cells
  pub cut : used ≡ sum_by (λ (row : Row). spent (row.degree + 2)) rows
  pub apart : AreApart rows cells used

-- the cells that lists of these lengths, level 0 not counted, need
abbrev pub cut_for : List (List ℕ) → ℕ
cut_for lists = sum_by (λ (l : List ℕ). spent (length l + 2)) lists

-- no row from `begun` on has a slice
pub record HaveBegun (rows : List Row) (begun : ℕ) : Type 0 where
  pub within : begun ≤ length rows
  pub rest : (v : ℕ) (d : Row) → begun ≤ v → v < length rows → ((slice_index_or rows v d).degree ≡ 0) × ((slice_index_or rows v d).full ≡ 0)
