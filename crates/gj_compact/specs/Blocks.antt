-- Blocks of 64 of the ends of a vertex.
use Rattle.std.specs.Prelude.{ℕ, ◌-◌, ◌*◌, ◌<◌, ◌≤◌, ◌==◌, ◌&&◌, Bool, List, length, map, take, drop, slice_index}
use Rattle.std.specs.List.{Contains}
use Rattle.gj_base.specs.declared.kind.Kind.{Kind}
use Rattle.gj_base.specs.declared.mask.Mask.{Mask}
use Rattle.gj_base.specs.Kinds.{lets}
use Rattle.gj_compact.specs.declared.edge.End.{End}

-- the members of a list at the indexes from 64 * block to 64 * block + 63
abbrev pub block_of : {A : Type 0} → ℕ → List A → List A
block_of block xs = take 64 (drop (64 * block) xs)

-- the moments of ends
abbrev pub moments_of : List (ℕ × Kind × ℕ) → List ℕ
moments_of ends = map (λ e. e.2) ends

-- the least and the greatest of the moments
pub record AreBounds (moments : List ℕ) (least greatest : ℕ) : Type 0 where
  pub low : (i : ℕ) → i < length moments → least ≤ slice_index moments i
  pub high : (i : ℕ) → i < length moments → slice_index moments i ≤ greatest
  pub low_held : Contains moments least
  pub high_held : Contains moments greatest

-- the mask lets the end through
abbrev pub lets_through : Mask → End → Bool
lets_through mask end = lets mask end.kind end.at

-- the moments of some of the ends, from one index up to another
abbrev pub moments_between : ℕ → ℕ → List End → List ℕ
moments_between from to ends = map (λ (end : End). end.at) (take (to - from) (drop from ends))

-- the end leads to the vertex, and the mask lets it through
abbrev pub reaches : ℕ → Mask → End → Bool
reaches vertex mask end = (end.vertex == vertex) && lets_through mask end
