-- The interactions of marked users.
use Rattle.std.proofs.Common.{◌≡◌, ◌≢◌, ℕ, ◌<◌, ◌+◌, ◌∙◌, ◌&&◌, ◌||◌, ◌++◌, nat_eq, Bool, true, false, cond, List, [], ◌∷◌, length, take, drop, map, filter, get_or, set, Some, None, inl, inr, append_assoc, append-nil, refl, arith, sym, subst, ap}
use Rattle.std.specs.Prelude.{All}
use Rattle.std.proofs.lemmas.Bool.{cases_eq, eq-eqb, ne_eqb}
use Rattle.std.proofs.lemmas.List.{take_more, take_at, drop_at, length-map, get_or-map, get_or-set_same, get_or-set_other}
use Rattle.std.proofs.lemmas.List.Elements.{All-head, All-tail, All-get_or, All-same, All-take, All-drop, filter-append}
use Rattle.gj_base.specs.declared.item.Item.{Item}
use Rattle.gj_base.specs.declared.kind.Kind.TheVariants.{Click}
use Rattle.gj_base.specs.declared.mask.Mask.{Mask}
use Rattle.gj_base.specs.declared.side.Side.TheVariants.{User, Post}
use Rattle.gj_base.specs.Edges.{stands_in, edges_of}
use Rattle.gj_base.specs.Ends.{passes}
use Rattle.gj_base.specs.Firsts.{place_of, HasNoRepeat}
use Rattle.gj_base.specs.Kinds.{lets}
use Rattle.gj_base.specs.Numbered.{named_by}
use Rattle.gj_base.proofs.FirstLemmas.{place_of-Some, place_of-at}
use Rattle.gj_compact.specs.declared.edge.Edge.{Edge}
use Rattle.gj_compact.specs.Turns.{plain, near}
use Rattle.gj_directory.specs.declared.directory.Directory.TheInside.{Inside}
use Rattle.gj_directory.specs.Directories.{Directed, held}
use Rattle.gj_directory.specs.Picking.{AreMarks, is_marked}
use Rattle.gj_directory.specs.Showing.{directed_of, IsItem, IsDirectory}
use Rattle.gj_directory.specs.Sides.{AreNamed, items_of}
use Rattle.gj_directory.proofs.NameLemmas.{items-append, items-length}
use Rattle.gj_directory.proofs.ShowLemmas.{held_is}
use Rattle.gj_directory.proofs.SideLemmas.{named_all}

or_false : (b : Bool) → (b || false) ≡ b
or_false true = refl
or_false false = refl

or_true : (b : Bool) → (b || true) ≡ true
or_true true = refl
or_true false = refl

and_swap : (a b : Bool) → (a && b) ≡ (b && a)
and_swap true true = refl
and_swap true false = refl
and_swap false true = refl
and_swap false false = refl

-- another number is not the user's
pub not_found : (ids : List ℕ) (user v : ℕ) → HasNoRepeat ids → v < length ids → place_of ids user ≢ Some v → nat_eq user (get_or ids v 0) ≡ false
not_found ids user v distinct below other =
    ne_eqb user (get_or ids v 0) (λ (same : user ≡ get_or ids v 0). other (place_of-at ids user v distinct below (sym same)))

-- one more user is marked, where it has a number
pub marked_yes : (ids : List ℕ) (marks : List Bool) (user n v : ℕ) → HasNoRepeat ids → length marks ≡ length ids → place_of ids user ≡ Some n → v < length ids
    → get_or (set marks n true) v false ≡ (get_or marks v false || nat_eq user (get_or ids v 0))
marked_yes ids marks user n v distinct long found below = elim (cases_eq v n) [
  | inl e ↦
      let at = place_of-Some ids user n found in
      let same : nat_eq user (get_or ids v 0) ≡ true = eq-eqb user (get_or ids v 0) (sym (ap (λ (k : ℕ). get_or ids k 0) e ∙ at.1)) in
      ap (λ (k : ℕ). get_or (set marks n true) k false) e ∙ (get_or-set_same marks n true false (omega (arith, at.0, long)) ∙ rw same (sym (or_true (get_or marks v false))))
  | inr ne ↦
      let other : place_of ids user ≢ Some v = λ (here : place_of ids user ≡ Some v). ne (cc (here, found)) in
      get_or-set_other marks n v true false ne ∙ rw (not_found ids user v distinct below other) (sym (or_false (get_or marks v false)))
]

pub marked_no : (ids : List ℕ) (marks : List Bool) (user v : ℕ) → HasNoRepeat ids → place_of ids user ≡ None → v < length ids
    → get_or marks v false ≡ (get_or marks v false || nat_eq user (get_or ids v 0))
marked_no ids marks user v distinct none below =
    let other : place_of ids user ≢ Some v = λ (here : place_of ids user ≡ Some v). absurd (cc (here, none)) in
    rw (not_found ids user v distinct below other) (sym (or_false (get_or marks v false)))

-- the interaction at a place
abbrev pub edge_at : List Edge → ℕ → Edge
edge_at edges i = get_or edges i (record { user = 0; post = 0; kind = Click; at = 0 })

pub edge_sane : (users posts : List ℕ) (edges : List Edge) (i : ℕ) → All IsItem (items_of users posts edges) → i < length edges → IsItem (named_by users posts (plain (edge_at edges i)))
edge_sane users posts edges i sane below =
    let x : Edge = edge_at edges i in
    let y : Item = named_by users posts (plain x) in
    let some = All-get_or IsItem (items_of users posts edges) i y (omega (arith, below, items-length users posts edges)) sane in
    let here : get_or (items_of users posts edges) i y ≡ y =
    get_or-map (named_by users posts) (map plain edges) i (plain x) y (omega (arith, below, length-map edges plain))
    ∙ ap (named_by users posts) (get_or-map plain edges i (record { user = 0; post = 0; kind = Click; at = 0 }) (plain x) below) in
    subst IsItem here some

-- one more interaction
pub picked_next : (users posts : List ℕ) (marks : List Bool) (mask : Mask) (edges : List Edge) (i : ℕ) (old : List Item) → i < length edges
    → old ++ items_of users posts (filter (is_marked marks mask) (take (i + 1) edges))
    ≡ cond (is_marked marks mask (edge_at edges i)) ((old ++ items_of users posts (filter (is_marked marks mask) (take i edges))) ++ named_by users posts (plain (edge_at edges i)) ∷ [])
    (old ++ items_of users posts (filter (is_marked marks mask) (take i edges)))
picked_next users posts marks mask edges i old below =
    let p : Edge → Bool = is_marked marks mask in
    let x : Edge = edge_at edges i in
    let one : take (i + 1) edges ≡ take i edges ++ x ∷ [] = take_more edges i (record { user = 0; post = 0; kind = Click; at = 0 }) below in
    rw (one, filter-append p (take i edges) (x ∷ []), items-append users posts (filter p (take i edges)) (filter p (x ∷ [])))
    (next_case x (p x) (items_of users posts (filter p (take i edges))))
  where
    next_case : (x : Edge) (b : Bool) (xs : List Item)
        → old ++ (xs ++ items_of users posts (cond b (x ∷ []) [])) ≡ cond b ((old ++ xs) ++ named_by users posts (plain x) ∷ []) (old ++ xs)
    next_case x true xs = sym (append_assoc old xs (named_by users posts (plain x) ∷ []))
    next_case x false xs = ap (λ (l : List Item). old ++ l) (append-nil xs)

-- those of marked users are those of the users
pub marked_are : (ids posts users : List ℕ) (marks : List Bool) (mask : Mask) (edges : List Edge) → AreMarks ids users marks → AreNamed ids User edges
    → items_of ids posts (filter (is_marked marks mask) edges) ≡ edges_of (items_of ids posts edges) users mask
unfolding edges_of
marked_are ids posts users marks mask [] are known = refl
marked_are ids posts users marks mask (x ∷ xs) are known =
    let rest = marked_are ids posts users marks mask xs are (All-tail (λ (edge : Edge). near User edge < length ids) x xs known) in
    let here = are.marked x.user (All-head (λ (edge : Edge). near User edge < length ids) x xs known) in
    rw (here, and_swap (stands_in users (get_or ids x.user 0)) (lets mask x.kind x.at)) (same_case (lets mask x.kind x.at && stands_in users (get_or ids x.user 0)) rest)
  where
    same_case : (b : Bool) → items_of ids posts (filter (is_marked marks mask) xs) ≡ filter (λ y. passes mask y && stands_in users y.user) (items_of ids posts xs)
        → items_of ids posts (cond b (x ∷ filter (is_marked marks mask) xs) (filter (is_marked marks mask) xs))
        ≡ cond b (named_by ids posts (plain x) ∷ filter (λ y. passes mask y && stands_in users y.user) (items_of ids posts xs)) (filter (λ y. passes mask y && stands_in users y.user) (items_of ids posts xs))
    same_case true e = ap (λ (l : List Item). named_by ids posts (plain x) ∷ l) e
    same_case false e = e

-- what is asked of interactions that are read by their identifiers
pub record AreRead (ids far : List ℕ) (edges : List Edge) : Type 0 where
  pub users : AreNamed ids User edges
  pub posts : AreNamed far Post edges
  pub sane : All IsItem (items_of ids far edges)

pub all_read : (d : Inside) → IsDirectory d → AreRead d.users.names.ids d.posts.names.ids d.edges.items
all_read d is =
    let users = d.users.names.ids in
    let posts = d.posts.names.ids in
    let edges : List Edge = d.edges.items in
    record {
      users = named_all users User d.full edges is.users.known_full is.users.known_fresh;
      posts = named_all posts Post d.full edges is.posts.known_full is.posts.known_fresh;
      sane = All-same IsItem (items_of users posts edges) (held (directed_of d)) (sym (held_is d)) is.sane;
    }

front_all : {X : Type 0} (P : X → Type 0) (xs ys : List X) → All P (xs ++ ys) → All P xs
front_all P xs ys all = All-same P xs (take (length xs) (xs ++ ys)) (sym (take_at xs ys (length xs) refl)) (All-take P (length xs) (xs ++ ys) all)

back_all : {X : Type 0} (P : X → Type 0) (xs ys : List X) → All P (xs ++ ys) → All P ys
back_all P xs ys all = All-same P ys (drop (length xs) (xs ++ ys)) (sym (drop_at xs ys (length xs) refl)) (All-drop P (length xs) (xs ++ ys) all)

both_read : (users posts : List ℕ) (front back : List Edge) → AreRead users posts (front ++ back) → AreRead users posts front × AreRead users posts back
both_read users posts front back all =
    let sane : All IsItem (items_of users posts front ++ items_of users posts back) =
    All-same IsItem (items_of users posts front ++ items_of users posts back) (items_of users posts (front ++ back)) (sym (items-append users posts front back)) all.sane in (
      record {
        users = front_all (λ (edge : Edge). near User edge < length users) front back all.users;
        posts = front_all (λ (edge : Edge). near Post edge < length posts) front back all.posts;
        sane = front_all IsItem (items_of users posts front) (items_of users posts back) sane;
      },
      record {
        users = back_all (λ (edge : Edge). near User edge < length users) front back all.users;
        posts = back_all (λ (edge : Edge). near Post edge < length posts) front back all.posts;
        sane = back_all IsItem (items_of users posts front) (items_of users posts back) sane;
      },
    )

-- both parts of them
pub parts_read : (d : Inside) (front back : List Edge) → IsDirectory d → front ++ back ≡ d.edges.items
    → AreRead d.users.names.ids d.posts.names.ids front × AreRead d.users.names.ids d.posts.names.ids back
parts_read d front back is whole =
    both_read d.users.names.ids d.posts.names.ids front back (subst (λ (l : List Edge). AreRead d.users.names.ids d.posts.names.ids l) (sym whole) (all_read d is))

-- those of both parts are those of all that are shown
pub edges_told : (d : Inside) (shown : Directed) (users : List ℕ) (marks : List Bool) (mask : Mask) (front back : List Edge) (none first picked : List Item) → IsDirectory d → directed_of d ≡ shown
    → AreMarks d.users.names.ids users marks → front ++ back ≡ d.edges.items → none ≡ []
    → first ≡ none ++ items_of d.users.names.ids d.posts.names.ids (filter (is_marked marks mask) front)
    → picked ≡ first ++ items_of d.users.names.ids d.posts.names.ids (filter (is_marked marks mask) back)
    → picked ≡ edges_of (held shown) users mask
edges_told d shown users marks mask front back none first picked is view are whole empty first_is picked_is =
    let ids = d.users.names.ids in
    let posts = d.posts.names.ids in
    let p : Edge → Bool = is_marked marks mask in
    let begun : first ≡ items_of ids posts (filter p front) = first_is ∙ ap (λ (l : List Item). l ++ items_of ids posts (filter p front)) empty in
    let both : items_of ids posts (filter p front) ++ items_of ids posts (filter p back) ≡ items_of ids posts (filter p (front ++ back)) =
    sym (items-append ids posts (filter p front) (filter p back)) ∙ ap (items_of ids posts) (sym (filter-append p front back)) in
    picked_is ∙ (ap (λ (l : List Item). l ++ items_of ids posts (filter p back)) begun ∙ (both ∙ (ap (λ (l : List Edge). items_of ids posts (filter p l)) whole
    ∙ (marked_are ids posts users marks mask d.edges.items are (all_read d is).users
    ∙ (ap (λ (l : List Item). edges_of l users mask) (sym (held_is d)) ∙ ap (λ (s : Directed). edges_of (held s) users mask) view)))))
