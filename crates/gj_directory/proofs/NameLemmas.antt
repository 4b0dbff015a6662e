-- Interactions by numbers, as identifiers are added.
use Rattle.std.proofs.Common.{◌≡◌, ℕ, zero, suc, ◌<◌, ◌∙◌, List, [], ◌∷◌, ◌++◌, length, map, take, drop, get_or, slice_get, option_map, Some, refl, sym, ap}
use Rattle.std.proofs.lemmas.List.{map-append, length-map, take-append-drop}
use Rattle.std.proofs.lemmas.List.Elements.{All-head, All-tail}
use Rattle.std.proofs.lemmas.Option.{slice_get-map}
use Rattle.gj_base.specs.declared.item.Item.{Item}
use Rattle.gj_base.specs.declared.side.Side.{Side}
use Rattle.gj_base.specs.declared.side.Side.TheVariants.{User, Post}
use Rattle.gj_base.specs.Firsts.{place_of, with_id}
use Rattle.gj_base.specs.Numbered.{named_by}
use Rattle.gj_base.proofs.FirstLemmas.{place_of-Some, get_or-with_id}
use Rattle.gj_compact.specs.declared.edge.Edge.{Edge}
use Rattle.gj_compact.specs.Turns.{plain, near}
use Rattle.gj_directory.specs.Sides.{AreNamed, items_of, items_from}

-- an identifier that comes changes none of the names before
pub items_more : (side : Side) (ids far : List ℕ) (id : ℕ) (edges : List Edge) → AreNamed ids side edges → items_from side (with_id ids id) far edges ≡ items_from side ids far edges
items_more User ids far id [] known = refl
items_more Post ids far id [] known = refl
items_more User ids far id (x ∷ xs) known =
    let a = get_or-with_id ids id x.user (All-head (λ (edge : Edge). near User edge < length ids) x xs known) in
    let rest = items_more User ids far id xs (All-tail (λ (edge : Edge). near User edge < length ids) x xs known) in
    rw (a, rest) refl
items_more Post ids far id (x ∷ xs) known =
    let a = get_or-with_id ids id x.post (All-head (λ (edge : Edge). near Post edge < length ids) x xs known) in
    let rest = items_more Post ids far id xs (All-tail (λ (edge : Edge). near Post edge < length ids) x xs known) in
    rw (a, rest) refl

pub items_same : (users posts : List ℕ) (u p : ℕ) (edges : List Edge) → AreNamed users User edges → AreNamed posts Post edges
    → items_of (with_id users u) (with_id posts p) edges ≡ items_of users posts edges
items_same users posts u p edges ku kp = items_more User users (with_id posts p) u edges ku ∙ items_more Post posts users p edges kp

pub items-length : (users posts : List ℕ) (edges : List Edge) → length (items_of users posts edges) ≡ length edges
items-length users posts edges = length-map (map plain edges) (named_by users posts) ∙ length-map edges plain

pub items-append : (users posts : List ℕ) (xs ys : List Edge) → items_of users posts (xs ++ ys) ≡ items_of users posts xs ++ items_of users posts ys
items-append users posts xs ys = ap (map (named_by users posts)) (map-append plain xs ys) ∙ map-append (named_by users posts) (map plain xs) (map plain ys)

pub from-append : (side : Side) (ids far : List ℕ) (xs ys : List Edge) → items_from side ids far (xs ++ ys) ≡ items_from side ids far xs ++ items_from side ids far ys
from-append User ids far xs ys = items-append ids far xs ys
from-append Post ids far xs ys = items-append far ids xs ys

pub items-take : (users posts : List ℕ) (n : ℕ) (edges : List Edge) → items_of users posts (take n edges) ≡ take n (items_of users posts edges)
items-take users posts zero edges = refl
items-take users posts (suc n) [] = refl
items-take users posts (suc n) (x ∷ xs) = ap (λ (l : List Item). named_by users posts (plain x) ∷ l) (items-take users posts n xs)

pub items-drop : (users posts : List ℕ) (n : ℕ) (edges : List Edge) → items_of users posts (drop n edges) ≡ drop n (items_of users posts edges)
items-drop users posts zero edges = refl
items-drop users posts (suc n) [] = refl
items-drop users posts (suc n) (x ∷ xs) = items-drop users posts n xs

-- the laid out ones and the others together
pub items_held : (users posts : List ℕ) (n : ℕ) (edges : List Edge) → items_of users posts (take n edges) ++ items_of users posts (drop n edges) ≡ items_of users posts edges
items_held users posts n edges = sym (items-append users posts (take n edges) (drop n edges)) ∙ ap (items_of users posts) (take-append-drop n edges)

pub items_noted : (users users' posts posts' : List ℕ) (edges : List Edge) (u p : ℕ) (x : Item)
    → users' ≡ with_id users x.user → place_of users' x.user ≡ Some u → posts' ≡ with_id posts x.post → place_of posts' x.post ≡ Some p
    → AreNamed users User edges → AreNamed posts Post edges
    → items_of users' posts' (edges ++ (record { user = u; post = p; kind = x.kind; at = x.at }) ∷ []) ≡ items_of users posts edges ++ x ∷ []
items_noted users users' posts posts' edges u p x users_are user_at posts_are post_at ku kp =
    let edge : Edge = record { user = u; post = p; kind = x.kind; at = x.at } in
    let hu : get_or users' u 0 ≡ x.user = (place_of-Some users' x.user u user_at).1 in
    let hp : get_or posts' p 0 ≡ x.post = (place_of-Some posts' x.post p post_at).1 in
    let old : items_of users' posts' edges ≡ items_of users posts edges = rw (users_are, posts_are) (items_same users posts x.user x.post edges ku kp) in
    items-append users' posts' edges (edge ∷ []) ∙ rw (old, hu, hp) refl

-- the interaction at a place
pub item_at : (users posts : List ℕ) (edges : List Edge) (i : ℕ) (x : Edge) → slice_get edges i ≡ Some x → slice_get (items_of users posts edges) i ≡ Some (named_by users posts (plain x))
item_at users posts edges i x is =
    slice_get-map (named_by users posts) (map plain edges) i
    ∙ ap (option_map (named_by users posts)) (slice_get-map plain edges i ∙ ap (option_map plain) is)
