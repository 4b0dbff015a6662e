-- A segment: interactions whose vertices are numbered, on each side, in the order of their first appearance.
use Rattle.std.specs.Prelude.{ℕ, ◌==◌, Bool, List, map, filter, slice_index}
use Rattle.gj_base.specs.declared.side.Side.{Side}
use Rattle.gj_base.specs.declared.side.Side.TheVariants.{User, Post}
use Rattle.gj_base.specs.declared.kind.Kind.{Kind}
use Rattle.gj_base.specs.declared.item.Item.{Item}
use Rattle.gj_base.specs.declared.mask.Mask.{Mask}
use Rattle.gj_base.specs.Ends.{vertex_on, vertex_across}
use Rattle.gj_base.specs.Firsts.{firsts, number_in}
use Rattle.gj_base.specs.Kinds.{lets}

-- the vertices of a side, in the order of their first appearance; the number of a vertex is its place
abbrev pub vertices_of : List Item → Side → List ℕ
vertices_of items side = firsts (map (vertex_on side) items)

-- the interaction with numbers for identifiers
abbrev pub numbered_by : List ℕ → List ℕ → Item → Item
numbered_by users posts x = record { user = number_in users x.user; post = number_in posts x.post; kind = x.kind; at = x.at }

-- the interactions with numbers for identifiers
unfoldable pub numbered : List Item → List Item
numbered items = map (numbered_by (vertices_of items User) (vertices_of items Post)) items

-- the interaction with the identifiers of these numbers
abbrev pub named_by : List ℕ → List ℕ → Item → Item
named_by users posts x = record { user = slice_index users x.user; post = slice_index posts x.post; kind = x.kind; at = x.at }

-- where the interaction leads from a side, with its kind and its moment
abbrev pub dated_across : Side → Item → ℕ × Kind × ℕ
dated_across side x = (vertex_across side x, x.kind, x.at)

-- the ends of the vertex v over all kinds and moments, each with its moment
unfoldable pub dated_ends : List Item → Side → ℕ → List (ℕ × Kind × ℕ)
dated_ends items side v = map (dated_across side) (filter (λ x. vertex_on side x == v) items)

-- the mask lets an end of this kind and moment through
abbrev pub lets_end : Mask → ℕ × Kind × ℕ → Bool
lets_end mask e = lets mask e.1 e.2
