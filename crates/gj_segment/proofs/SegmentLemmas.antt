-- The interactions of a segment, by their numbers.
use Rattle.std.proofs.Common.{◌≡◌, ℕ, suc, ◌<◌, List, [], ◌∷◌, ◌++◌, length, get_or, map, slice_get, option_map, Some, arith, ap, refl, sym, ◌∙◌}
use Rattle.std.proofs.lemmas.List.{map-append, length-map, get_or-map}
use Rattle.std.proofs.lemmas.Option.{slice_get-map, slice_get-get_or}
use Rattle.gj_base.specs.declared.item.Item.{Item}
use Rattle.gj_base.specs.Firsts.{firsts, HasNoRepeat, with_id, place_of}
use Rattle.gj_base.specs.Numbered.{numbered, numbered_by, vertices_of, dated_ends, dated_across, named_by}
use Rattle.gj_base.proofs.MaskedLemmas.{length-dated}
use Rattle.gj_base.specs.Kinds.{all_kinds}
use Rattle.gj_base.specs.declared.kind.Kind.{Kind}
use Rattle.gj_base.specs.declared.kind.Kind.TheVariants.{Click}
use Rattle.gj_base.specs.declared.side.Side.{Side}
use Rattle.gj_pool.specs.Lists.{cells_of}
use Rattle.gj_segment.specs.declared.pool_segment.PoolSegment.TheInside.{Inside}
use Rattle.gj_segment.specs.Halves.{IsHalf, ids_of, places_from}
use Rattle.gj_segment.specs.Sides.{half_on}
use Rattle.gj_segment.proofs.HalfLemmas.{half_few}
use Rattle.gj_segment.proofs.PlaceLemmas.{ends-places, places-below}
use Rattle.gj_base.specs.declared.side.Side.TheVariants.{User, Post}
use Rattle.gj_base.specs.Ends.{vertex_on, ends}
use Rattle.gj_base.proofs.FirstLemmas.{number_in-at, get_or-with_id, place_of-Some}
use Rattle.gj_segment.specs.Segment.{plain, items_of, shown_by, IsSegment}
use Rattle.gj_segment.specs.declared.edge.Edge.{Edge}

-- numbers that are named and numbered are as they were
pub renumbered : (users posts : List ℕ) (xs : List Item) → HasNoRepeat users → HasNoRepeat posts
    → ((i : ℕ) → i < length (map (vertex_on User) xs) → get_or (map (vertex_on User) xs) i 0 < length users)
    → ((i : ℕ) → i < length (map (vertex_on Post) xs) → get_or (map (vertex_on Post) xs) i 0 < length posts)
    → map (numbered_by users posts) (map (named_by users posts) xs) ≡ xs
renumbered users posts [] du dp ku kp = refl
renumbered users posts (x ∷ xs) du dp ku kp =
    let u = number_in-at users x.user du (ku 0 (omega arith)) in
    let p = number_in-at posts x.post dp (kp 0 (omega arith)) in
    let rest = renumbered users posts xs du dp (λ i h. ku (suc i) (omega arith)) (λ i h. kp (suc i) (omega arith)) in
    rw (u, p, rest) refl

-- what was known is named as before
named_same : (users posts : List ℕ) (u p : ℕ) (xs : List Item)
    → ((i : ℕ) → i < length (map (vertex_on User) xs) → get_or (map (vertex_on User) xs) i 0 < length users)
    → ((i : ℕ) → i < length (map (vertex_on Post) xs) → get_or (map (vertex_on Post) xs) i 0 < length posts)
    → map (named_by (with_id users u) (with_id posts p)) xs ≡ map (named_by users posts) xs
named_same users posts u p [] ku kp = refl
named_same users posts u p (x ∷ xs) ku kp =
    let a = get_or-with_id users u x.user (ku 0 (omega arith)) in
    let b = get_or-with_id posts p x.post (kp 0 (omega arith)) in
    let rest = named_same users posts u p xs (λ i h. ku (suc i) (omega arith)) (λ i h. kp (suc i) (omega arith)) in
    rw (a, b, rest) refl

pub items_pushed : (users users' posts posts' : List ℕ) (edges edges' : List Edge) (u p : ℕ) (x : Item)
    → edges' ≡ edges ++ (record { user = u; post = p; kind = x.kind; at = x.at }) ∷ []
    → users' ≡ with_id users x.user → place_of users' x.user ≡ Some u
    → posts' ≡ with_id posts x.post → place_of posts' x.post ≡ Some p
    → ((i : ℕ) → i < length (map (vertex_on User) (map plain edges)) → get_or (map (vertex_on User) (map plain edges)) i 0 < length users)
    → ((i : ℕ) → i < length (map (vertex_on Post) (map plain edges)) → get_or (map (vertex_on Post) (map plain edges)) i 0 < length posts)
    → items_of users' posts' edges' ≡ items_of users posts edges ++ x ∷ []
items_pushed users users' posts posts' edges edges' u p x edges_are users_are user_at posts_are post_at ku kp =
    let edge : Edge = record { user = u; post = p; kind = x.kind; at = x.at } in
    let all : map plain edges' ≡ map plain edges ++ plain edge ∷ [] = ap (map plain) edges_are ∙ map-append plain edges (edge ∷ []) in
    let hu : get_or users' u 0 ≡ x.user = (place_of-Some users' x.user u user_at).1 in
    let hp : get_or posts' p 0 ≡ x.post = (place_of-Some posts' x.post p post_at).1 in
    let old : map (named_by users' posts') (map plain edges) ≡ map (named_by users posts) (map plain edges) =
    rw (users_are, posts_are) (named_same users posts x.user x.post (map plain edges) ku kp)
    in
    ap (map (named_by users' posts')) all ∙ (map-append (named_by users' posts') (map plain edges) (plain edge ∷ []) ∙ rw (old, hu, hp) refl)

named_users : (users posts : List ℕ) (xs : List Item) → map (vertex_on User) (map (named_by users posts) xs) ≡ ids_of users (map (vertex_on User) xs)
named_users users posts [] = refl
named_users users posts (x ∷ xs) = let rest = named_users users posts xs in rw rest refl

named_posts : (users posts : List ℕ) (xs : List Item) → map (vertex_on Post) (map (named_by users posts) xs) ≡ ids_of posts (map (vertex_on Post) xs)
named_posts users posts [] = refl
named_posts users posts (x ∷ xs) = let rest = named_posts users posts xs in rw rest refl

-- what is known on a side
pub side_half : (s : Inside) (side : Side) → IsSegment s
    → IsHalf (half_on side s.users s.posts).ids (half_on side s.users s.posts).places (map (vertex_on side) (map plain s.edges.items)) s.room
side_half s User is = is.users
side_half s Post is = is.posts

pub side_vertices : (s : Inside) (side : Side) → IsSegment s → vertices_of (shown_by s).items side ≡ (half_on side s.users s.posts).ids.ids
side_vertices s User is = ap firsts (named_users s.users.ids.ids s.posts.ids.ids (map plain s.edges.items)) ∙ sym is.users.numbering
side_vertices s Post is = ap firsts (named_posts s.users.ids.ids s.posts.ids.ids (map plain s.edges.items)) ∙ sym is.posts.numbering

-- the interactions by their numbers are the edges
pub shown_numbered : (s : Inside) → IsSegment s → numbered (shown_by s).items ≡ map plain s.edges.items
unfolding numbered
shown_numbered s is =
    let u = side_vertices s User is in
    let p = side_vertices s Post is in
    rw (u, p) (renumbered s.users.ids.ids s.posts.ids.ids (map plain s.edges.items) is.users.distinct is.posts.distinct is.users.known is.posts.known)

pub shown_length : (s : Inside) → length (shown_by s).items ≡ length s.edges.items
shown_length s = length-map (map plain s.edges.items) (named_by s.users.ids.ids s.posts.ids.ids) ∙ length-map s.edges.items plain

-- each vertex has a list in the pool
pub side_room : (s : Inside) (side : Side) (v : ℕ) → IsSegment s → v < length (vertices_of (shown_by s).items side)
    → (v < length (half_on side s.users s.posts).ids.ids) × (v < length (half_on side s.users s.posts).places.lists)
side_room s side v is below =
    let half = side_half s side is in
    let here = ap length (side_vertices s side is) in
    (omega (arith, below, here), omega (arith, below, here, half_few _ _ _ _ half, half.few, half.long))

-- the places of a vertex are its ends
pub shown_ends : (s : Inside) (side : Side) (v : ℕ) (d : Item) → IsSegment s → v < length (vertices_of (shown_by s).items side)
    → map (λ (p : ℕ). dated_across side (get_or (map plain s.edges.items) p d)) (cells_of (half_on side s.users s.posts).places.lists v)
    ≡ dated_ends (numbered (shown_by s).items) side v
shown_ends s side v d is below =
    let half = side_half s side is in
    let within : v < s.room = omega (arith, (side_room s side v is below).1, half.long) in
    ap (map (λ (p : ℕ). dated_across side (get_or (map plain s.edges.items) p d))) (half.lists v within)
    ∙ (ends-places (map plain s.edges.items) side v d ∙ sym (ap (λ (l : List Item). dated_ends l side v) (shown_numbered s is)))

pub shown_degree : (s : Inside) (side : Side) (v : ℕ) → IsSegment s → v < length (vertices_of (shown_by s).items side)
    → length (cells_of (half_on side s.users s.posts).places.lists v) ≡ length (ends (numbered (shown_by s).items) side v all_kinds)
shown_degree s side v is below =
    let d : Item = record { user = 0; post = 0; kind = Click; at = 0 } in
    sym (length-map (cells_of (half_on side s.users s.posts).places.lists v) (λ (p : ℕ). dated_across side (get_or (map plain s.edges.items) p d)))
    ∙ (ap length (shown_ends s side v d is below) ∙ length-dated (numbered (shown_by s).items) side v)

-- the place of an end is one of the segment's
pub shown_place : (s : Inside) (side : Side) (v i : ℕ) → IsSegment s → v < length (vertices_of (shown_by s).items side)
    → i < length (cells_of (half_on side s.users s.posts).places.lists v)
    → get_or (cells_of (half_on side s.users s.posts).places.lists v) i 0 < length s.edges.items
shown_place s side v i is below held =
    let half = side_half s side is in
    let near = map (vertex_on side) (map plain s.edges.items) in
    let within : v < s.room = omega (arith, (side_room s side v is below).1, half.long) in
    let lists = half.lists v within in
    let size : length near ≡ length s.edges.items = length-map (map plain s.edges.items) (vertex_on side) ∙ length-map s.edges.items plain in
    let held' : i < length (places_from 0 near v) = omega (arith, held, ap length lists) in
    rw lists (omega (arith, places-below 0 near v i held', size))

pub shown_edge : (s : Inside) (side : Side) (v i p : ℕ) (edge : Edge) → IsSegment s → v < length (vertices_of (shown_by s).items side)
    → i < length (cells_of (half_on side s.users s.posts).places.lists v) → p ≡ get_or (cells_of (half_on side s.users s.posts).places.lists v) i 0
    → edge ≡ get_or s.edges.items p edge
    → slice_get (dated_ends (numbered (shown_by s).items) side v) i ≡ Some (dated_across side (plain edge))
shown_edge s side v i p edge is below held place_is edge_is =
    let d : Item = plain edge in
    let f : ℕ → ℕ × Kind × ℕ = λ (q : ℕ). dated_across side (get_or (map plain s.edges.items) q d) in
    let places = cells_of (half_on side s.users s.posts).places.lists v in
    let there : p < length s.edges.items = omega (arith, shown_place s side v i is below held, place_is) in
    let found : get_or (map plain s.edges.items) p d ≡ plain edge = get_or-map plain s.edges.items p edge d there ∙ ap plain (sym edge_is) in
    ap (λ (l : List (ℕ × Kind × ℕ)). slice_get l i) (sym (shown_ends s side v d is below))
    ∙ (slice_get-map f places i ∙ (ap (option_map f) (slice_get-get_or places i 0 held)
    ∙ ap (λ (x : Item). Some (dated_across side x)) (ap (λ (q : ℕ). get_or (map plain s.edges.items) q d) (sym place_is) ∙ found)))
