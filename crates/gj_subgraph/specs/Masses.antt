-- Subgraph SALSA. After GraphJet (PVLDB 9(13), 2016). Own: whole units, whose remainder goes to a vertex's first edges.
use Rattle.std.specs.Prelude.{ℕ, zero, suc, ◌+◌, ◌-◌, ◌*◌, ◌/◌, ◌%◌, ◌==◌, nat_lt, if◌then◌else◌, List, [], ◌∷◌, ◌++◌, map, fold, sum_by, count_by}
use Rattle.gj_base.specs.declared.item.Item.{Item}
use Rattle.gj_base.specs.Asks.{SubQuery}
use Rattle.gj_base.specs.Edges.{stands_in, edges_of}
use Rattle.gj_base.specs.Tally.{with_number}

-- the users of edges, edge by edge
abbrev pub users_of : List Item → List ℕ
users_of edges = map (λ x. x.user) edges

-- the posts of edges, edge by edge
abbrev pub posts_of : List Item → List ℕ
posts_of edges = map (λ x. x.post) edges

-- how many of these edges are at the vertex, where an edge is its vertex on that side
abbrev pub count_of : List ℕ → ℕ → ℕ
count_of side v = count_by (λ id. id == v) side

-- what an edge carries from its vertex: an even part of the units there, and one more if it is among so many first edges
-- as the remainder has units
abbrev pub carried : (ℕ → ℕ) → List ℕ → List ℕ → ℕ → ℕ
carried units near before v =
    units v / count_of near v + (if nat_lt (count_of before v) (units v % count_of near v) then 1 else 0)

-- what each edge carries, from the edges after those before
unfoldable pub carried_after : (ℕ → ℕ) → List ℕ → List ℕ → List ℕ → List ℕ
carried_after units near before [] = []
carried_after units near before (v ∷ rest) = carried units near before v ∷ carried_after units near (before ++ v ∷ []) rest

-- the sum of what the edges at the vertex carry
unfoldable pub arrived : List ℕ → List ℕ → ℕ → ℕ
arrived [] loads v = 0
arrived (id ∷ far) [] v = 0
arrived (id ∷ far) (load ∷ loads) v = (if id == v then load else 0) + arrived far loads v

-- one half step: the units at the vertices of the far side, by those at the vertices of the near side
unfoldable pub half_step : List ℕ → List ℕ → (ℕ → ℕ) → ℕ → ℕ
half_step near far units v = arrived far (carried_after units near [] near) v

-- the units after n half steps, the first from the near side to the far side, and each next one back
unfoldable pub spread : ℕ → List ℕ → List ℕ → (ℕ → ℕ) → ℕ → ℕ
spread zero near far units = units
spread (suc n) near far units = spread n far near (half_step near far units)

-- the vertices with one more, unless it stands there
abbrev pub with_vertex : List ℕ → ℕ → List ℕ
with_vertex ids v = if stands_in ids v then ids else ids ++ v ∷ []

-- the vertices of a side, each once, in the order of their first edges
unfoldable pub vertices : List ℕ → List ℕ
vertices side = fold with_vertex [] side

-- the sum of the units at the vertices, after n half steps
unfoldable pub total_after : ℕ → List ℕ → List ℕ → (ℕ → ℕ) → ℕ
total_after zero near far units = sum_by units (vertices near)
total_after (suc n) near far units = total_after n far near (half_step near far units)

-- the units at the start: each user with an edge has 2^20
abbrev pub starting : List ℕ → ℕ → ℕ
starting users user = if stands_in users user then 1048576 else 0

-- the pairs, with the units of a post that has any
abbrev pub with_mass : (ℕ → ℕ) → List (ℕ × ℕ) → ℕ → List (ℕ × ℕ)
with_mass units pairs post = if units post == 0 then pairs else with_number pairs post (units post)

-- the units of the posts after one half step to them, and for each further iteration one to the users and one back
unfoldable pub masses_of : List Item → SubQuery → List (ℕ × ℕ)
masses_of items ask =
    let edges = edges_of items ask.seeds ask.mask in
    let users = users_of edges in
    let posts = posts_of edges in
    fold (with_mass (spread (2 * ask.iterations - 1) users posts (starting users))) [] (vertices posts)
