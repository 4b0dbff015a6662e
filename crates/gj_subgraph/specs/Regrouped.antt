-- The same edges in another order. Private to this crate: no public clause cites it.
use Rattle.std.specs.Prelude.{◌≡◌, ℕ, ◌==◌, if◌then◌else◌, List, [], ◌∷◌, length, map}
use Rattle.gj_base.specs.declared.item.Item.{Item}
use Rattle.gj_base.specs.declared.mask.Mask.{Mask}
use Rattle.gj_base.specs.declared.side.Side.{Side}
use Rattle.gj_base.specs.Ends.{ends}

-- where the edges of a vertex lead, in order
unfoldable pub far_at : List ℕ → List ℕ → ℕ → List ℕ
far_at [] far u = []
far_at (w ∷ near) [] u = []
far_at (w ∷ near) (end ∷ far) u = if w == u then end ∷ far_at near far u else far_at near far u

-- the edges of each near vertex are the same, in the same order
pub record HaveSameEdges (near far near' far' : List ℕ) : Type 0 where
  pub lined : length near ≡ length far
  pub lined_too : length near' ≡ length far'
  pub ends : (u : ℕ) → far_at near far u ≡ far_at near' far' u

-- the vertices across from a vertex, in the window's order
abbrev pub ends_at : List Item → Side → ℕ → Mask → List ℕ
ends_at items side v mask = map (λ e. e.0) (ends items side v mask)

-- the edges lie by users, and once more by posts
pub record AreRelaid (users posts back_posts back_users : List ℕ) : Type 0 where
  pub near : List ℕ
  pub far : List ℕ
  pub by_users : HaveSameEdges users posts near far
  pub by_posts : HaveSameEdges back_posts back_users far near
