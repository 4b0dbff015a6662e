use Rattle.std.proofs.Common.{◌≡◌, ◌<◌, ℕ, List, [], ◌∷◌, ◌++◌, length, ap, map, ◌∙◌, arith}
use Rattle.std.proofs.lemmas.List.{length-map, map-append}
use Rattle.gj_base.specs.declared.item.Item.{Item}
use Rattle.gj_base.specs.declared.side.Side.{Side}
use Rattle.gj_base.specs.declared.side.Side.TheVariants.{User, Post}
use Rattle.gj_base.specs.Ends.{vertex_on}
use Rattle.gj_segment.specs.declared.edge.Edge.{Edge}
use Rattle.gj_base.specs.Numbered.{named_by}
use Rattle.gj_segment.specs.Segment.{plain, items_of, Segment}
use Rattle.gj_segment.proofs.HalfLemmas.{half_added, half_few}
use Rattle.gj_segment.proofs.SegmentLemmas.{items_pushed}
use Rattle.gj_segment.proofs.pool_segment.PoolSegment.add.Goals as goal

near_length : (side : Side) (edges : List Edge) → length (map (vertex_on side) (map plain edges)) ≡ length edges
near_length side edges = length-map (map plain edges) (vertex_on side) ∙ length-map edges plain

shown_length : (users posts : List ℕ) (edges : List Edge) → length (items_of users posts edges) ≡ length edges
shown_length users posts edges = length-map (map plain edges) (named_by users posts) ∙ length-map edges plain

near_push : (side : Side) (edges edges' : List Edge) (edge : Edge) → edges' ≡ edges ++ edge ∷ [] → map (vertex_on side) (map plain edges') ≡ map (vertex_on side) (map plain edges) ++ vertex_on side (plain edge) ∷ []
near_push side edges edges' edge e =
    ap (λ l. map (vertex_on side) (map plain l)) e ∙ (ap (map (vertex_on side)) (map-append plain edges (edge ∷ [])) ∙ map-append (vertex_on side) (map plain edges) (plain edge ∷ []))

pub add-user-requires-clause-spare : goal.add-user-requires-clause-spare
add-user-requires-clause-spare c none =
    let old = c.self.invariant in
    let users = c.self.inside.users.ids.ids in
    let posts = c.self.inside.posts.ids.ids in
    let edges = c.self.inside.edges.items in
    let items = ap (λ (s : Segment). length s.items) c.self.view_is in
    let room = ap (λ (s : Segment). s.room) c.self.view_is in
    omega (arith, half_few _ _ _ _ old.users, near_length User edges, shown_length users posts edges, items, room, c.requires, old.users.ids_room)

pub add-post-requires-clause-spare : goal.add-post-requires-clause-spare
add-post-requires-clause-spare c none =
    let old = c.self.invariant in
    let users = c.self.inside.users.ids.ids in
    let posts = c.self.inside.posts.ids.ids in
    let edges = c.self.inside.edges.items in
    let items = ap (λ (s : Segment). length s.items) c.self.view_is in
    let room = ap (λ (s : Segment). s.room) c.self.view_is in
    omega (arith, half_few _ _ _ _ old.posts, near_length Post edges, shown_length users posts edges, items, room, c.requires, old.posts.ids_room)

pub invariant_of-self : goal.invariant_of-self
invariant_of-self c =
    let old = c.self.invariant in
    let users = c.self.inside.users.ids.ids in
    let posts = c.self.inside.posts.ids.ids in
    let edges = c.self.inside.edges.items in
    let items = ap (λ (s : Segment). length s.items) c.self.view_is in
    let room = ap (λ (s : Segment). s.room) c.self.view_is in
    let fits : length edges < c.self.inside.room = omega (arith, shown_length users posts edges, items, room, c.requires) in
    record {
      users = half_added _ _ _ _ _ _ c.self.inside.room c.item.inside.user c.add-user.result c.len-place.result old.users
          (omega (arith, near_length User edges, fits)) (omega (arith, near_length User edges, c.len-place.ensures))
          (near_push User edges _ _ c.push_within.ensures.items)
          c.add-user.ensures.ids c.add-user.ensures.number c.add-user.ensures.in_range c.add-user.ensures.room c.add-user.ensures.lawful c.add-user.ensures.places;
      posts = half_added _ _ _ _ _ _ c.self.inside.room c.item.inside.post c.add-post.result c.len-place.result old.posts
          (omega (arith, near_length Post edges, fits)) (omega (arith, near_length Post edges, c.len-place.ensures))
          (near_push Post edges _ _ c.push_within.ensures.items)
          c.add-post.ensures.ids c.add-post.ensures.number c.add-post.ensures.in_range c.add-post.ensures.room c.add-post.ensures.lawful c.add-post.ensures.places;
      held = omega (arith, old.held, c.push_within.ensures.capacity);
    }

pub returns-clause-items : goal.returns-clause-items
returns-clause-items c =
    let old = c.self.invariant in
    let x : Item = record { user = c.item.inside.user; post = c.item.inside.post; kind = c.item.inside.kind; at = c.item.inside.at } in
    items_pushed c.self.inside.users.ids.ids _ c.self.inside.posts.ids.ids _ c.self.inside.edges.items _ c.add-user.result c.add-post.result x
    c.push_within.ensures.items c.add-user.ensures.ids c.add-user.ensures.number c.add-post.ensures.ids c.add-post.ensures.number old.users.known old.posts.known
    ∙ (ap (λ (s : Segment). s.items ++ x ∷ []) c.self.view_is ∙ ap (λ (y : Item). c.args.self.now.items ++ y ∷ []) c.item.view_is)
