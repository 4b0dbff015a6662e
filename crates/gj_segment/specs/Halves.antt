-- One side of a segment: which vertex each place has, and where the places of each vertex are kept.
use Rattle.std.specs.Prelude.{◌≡◌, ℕ, ◌+◌, ◌<◌, ◌≤◌, ◌==◌, List, [], ◌∷◌, length, map, slice_index_or, if◌then◌else◌}
use Rattle.gj_base.specs.Firsts.{firsts, HasNoRepeat}
use Rattle.gj_names.specs.Named.{Named}
use Rattle.gj_pool.specs.Lists.{cells_of}
use Rattle.gj_pool.specs.Pools.{Pooled, total_of}

-- the places, counted from k, at which vertex v stands
unfoldable pub places_from : ℕ → List ℕ → ℕ → List ℕ
places_from k [] v = []
places_from k (n ∷ near) v = if n == v then k ∷ places_from (k + 1) near v else places_from (k + 1) near v

-- the identifiers of these vertices
abbrev pub ids_of : List ℕ → List ℕ → List ℕ
ids_of ids near = map (λ n. slice_index_or ids n 0) near

-- the map numbers the identifiers by their first appearance, and the pool has the places of each vertex
pub record IsHalf (ids : Named) (pool : Pooled) (near : List ℕ) (room : ℕ) : Type 0 where
  pub any : 1 ≤ room
  pub fits : room ≤ 65536
  pub few : length near ≤ room
  pub ids_room : ids.room ≡ room
  pub distinct : HasNoRepeat ids.ids
  pub numbering : ids.ids ≡ firsts (ids_of ids.ids near)
  pub known : (i : ℕ) → i < length near → slice_index_or near i 0 < length ids.ids
  pub long : length pool.lists ≡ room
  pub edges : pool.edges ≡ room
  pub pushed : total_of pool.lists ≡ length near
  pub lists : (v : ℕ) → v < room → cells_of pool.lists v ≡ places_from 0 near v
