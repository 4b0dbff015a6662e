-- The interactions of some users.
use Rattle.std.specs.Prelude.{ℕ, ◌==◌, ◌&&◌, Bool, List, filter}
use Rattle.std.specs.List.{list_any}
use Rattle.gj_base.specs.declared.item.Item.{Item}
use Rattle.gj_base.specs.declared.mask.Mask.{Mask}
use Rattle.gj_base.specs.Ends.{passes}

-- the vertex stands among these
abbrev pub stands_in : List ℕ → ℕ → Bool
stands_in ids v = list_any (λ id. id == v) ids

-- the eligible interactions whose user stands among these, in the window's order
unfoldable pub edges_of : List Item → List ℕ → Mask → List Item
edges_of items users mask = filter (λ x. passes mask x && stands_in users x.user) items
