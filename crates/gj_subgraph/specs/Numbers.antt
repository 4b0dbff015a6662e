-- The vertices of a side by their numbers, and the units at them.
use Rattle.std.specs.Prelude.{◌≡◌, ℕ, ◌<◌, ◌==◌, nat_eq, false, if◌then◌else◌, Some, None, List, [], ◌∷◌, length, slice_index}
use Rattle.std.specs.declared.hash.FoldHasher.{FoldHasher}
use Rattle.std.specs.declared.hash.BuildHasherDefault.{BuildHasherDefault}
use Rattle.std.specs.HashMap.{get, HashMap}
use Rattle.gj_subgraph.specs.declared.vertices.Vertices.{Vertices}
use Rattle.gj_base.specs.Edges.{stands_in}
use Rattle.gj_subgraph.specs.Masses.{count_of, vertices}

-- the map has the number of each name, and of no other vertex
pub record AreNumbers (numbers : HashMap ℕ ℕ (BuildHasherDefault FoldHasher)) (names : List ℕ) : Type 0 where
  pub in_range : (v n : ℕ) → get nat_eq numbers v ≡ Some n → n < length names
  pub named : (v n : ℕ) → get nat_eq numbers v ≡ Some n → slice_index names n ≡ v
  pub absent : (v : ℕ) → get nat_eq numbers v ≡ None → stands_in names v ≡ false

-- each edge of the side goes by the number of its vertex among the names
pub record ArePlaced (side names places : List ℕ) : Type 0 where
  pub same_len : length places ≡ length side
  pub in_range : (k : ℕ) → k < length side → slice_index places k < length names
  pub named : (k : ℕ) → k < length side → slice_index names (slice_index places k) ≡ slice_index side k

-- each name goes with its number of edges
pub record AreDegrees (side names degrees : List ℕ) : Type 0 where
  pub same_len : length degrees ≡ length names
  pub counted : (u : ℕ) → u < length names → slice_index degrees u ≡ count_of side (slice_index names u)

-- the vertices of the side have numbers in the order of their first edges
pub record AreNumbered (it : Vertices) : Type 0 where
  pub names : it.names.items ≡ vertices it.side.items
  pub places : ArePlaced it.side.items it.names.items it.places.items
  pub degrees : AreDegrees it.side.items it.names.items it.degrees.items

-- the units at the vertices with these names, in the order of their numbers
unfoldable pub units_in : List ℕ → List ℕ → ℕ → ℕ
units_in [] units v = 0
units_in (name ∷ names) [] v = 0
units_in (name ∷ names) (x ∷ units) v = if name == v then x else units_in names units v
