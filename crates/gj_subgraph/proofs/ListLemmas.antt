-- Edges by the ends of their vertices.
use Rattle.std.proofs.Common.{◌≡◌, ℕ, suc, ◌+◌, ◌<◌, ◌≤◌, ◌∙◌, ◌++◌, ◌||◌, ◌&&◌, Bool, true, false, cond, nat_eq, List, [], ◌∷◌, length, take, drop, get_or, map, filter, slice_get, Some, ap, sym, refl, arith, append_assoc, append-nil, length-append}
use Rattle.std.proofs.lemmas.List.{take_more, take-append-drop}
use Rattle.std.proofs.lemmas.List.Folds.{list_any_more}
use Rattle.std.proofs.lemmas.Option.{get_or_from_slice_get, slice_get_within}
use Rattle.gj_base.specs.declared.item.Item.{Item}
use Rattle.gj_base.specs.declared.kind.Kind.{Kind}
use Rattle.gj_base.specs.declared.mask.Mask.{Mask}
use Rattle.gj_base.specs.declared.side.Side.TheVariants.{User, Post}
use Rattle.gj_base.specs.Ends.{ends, passes, end_across, is_eligible}
use Rattle.gj_base.specs.Edges.{stands_in, edges_of}
use Rattle.gj_subgraph.specs.Masses.{count_of, users_of, posts_of, vertices}
use Rattle.gj_subgraph.specs.Regrouped.{far_at, ends_at, HaveSameEdges}
use Rattle.gj_subgraph.proofs.CountLemmas.{bit, eqb_self, eqb_same, count_append, count_push, count_stands}
use Rattle.gj_subgraph.proofs.RegroupLemmas.{count_far, uncounted, same_far_count}
use Rattle.gj_subgraph.proofs.NumberLemmas.{take_whole}
use Rattle.gj_subgraph.proofs.StepLemmas.{stands_vertices}
use mathlib.Core.Path.{fun_ext}

pub length_push : (xs : List ℕ) (x : ℕ) → length (xs ++ x ∷ []) ≡ length xs + 1
length_push xs x = length-append xs (x ∷ [])

pub lined_push : (near far : List ℕ) (w end : ℕ) → length near ≡ length far → length (near ++ w ∷ []) ≡ length (far ++ end ∷ [])
lined_push near far w end l = let one = length_push near w in let two = length_push far end in omega (arith, one, two)

pub far_push : (near far : List ℕ) (w end u : ℕ) → length near ≡ length far
    → far_at (near ++ w ∷ []) (far ++ end ∷ []) u ≡ far_at near far u ++ cond (nat_eq w u) (end ∷ []) []
unfolding far_at
far_push [] [] w end u l = refl
far_push [] (y ∷ far) w end u l = absurd (omega arith)
far_push (x ∷ near) [] w end u l = absurd (omega arith)
far_push (x ∷ near) (y ∷ far) w end u l = push_case (nat_eq x u) (far_push near far w end u (omega arith))
  where
    push_case : (b : Bool) → far_at (near ++ w ∷ []) (far ++ end ∷ []) u ≡ far_at near far u ++ cond (nat_eq w u) (end ∷ []) []
        → cond b (y ∷ far_at (near ++ w ∷ []) (far ++ end ∷ []) u) (far_at (near ++ w ∷ []) (far ++ end ∷ []) u)
        ≡ cond b (y ∷ far_at near far u) (far_at near far u) ++ cond (nat_eq w u) (end ∷ []) []
    push_case true e = ap (λ l. y ∷ l) e
    push_case false e = e

pub far_none : (u : ℕ) → far_at [] [] u ≡ []
unfolding far_at
far_none u = refl

pub seeds_all : (n : ℕ) (xs : List ℕ) → length xs ≤ n → take n xs ≡ xs
seeds_all n xs l = take_whole n xs l

-- one more end
pub across_more : (edges : List (ℕ × Kind)) (i : ℕ) (end : ℕ × Kind) → slice_get edges i ≡ Some end
    → map (λ (e : ℕ × Kind). e.0) (take (i + 1) edges) ≡ map (λ (e : ℕ × Kind). e.0) (take i edges) ++ end.0 ∷ []
across_more edges i end is =
    let within = slice_get_within edges i end is in
    let one : take (i + 1) edges ≡ take i edges ++ end ∷ [] =
    take_more edges i end within ∙ ap (λ y. take i edges ++ y ∷ []) (get_or_from_slice_get edges i end end is) in
    rw one (map_push (take i edges))
  where
    map_push : (xs : List (ℕ × Kind)) → map (λ (e : ℕ × Kind). e.0) (xs ++ end ∷ []) ≡ map (λ (e : ℕ × Kind). e.0) xs ++ end.0 ∷ []
    map_push [] = refl
    map_push (x ∷ xs) = ap (λ l. x.0 ∷ l) (map_push xs)

pub filter_push : (p : ℕ → Bool) (xs : List ℕ) (x : ℕ) → filter p (xs ++ x ∷ []) ≡ filter p xs ++ cond (p x) (x ∷ []) []
filter_push p [] x = only (p x)
  where
    only : (b : Bool) → cond b (x ∷ []) [] ≡ cond b (x ∷ []) []
    only b = refl
filter_push p (y ∷ ys) x = push_case (p y) (filter_push p ys x)
  where
    push_case : (b : Bool) → filter p (ys ++ x ∷ []) ≡ filter p ys ++ cond (p x) (x ∷ []) []
        → cond b (y ∷ filter p (ys ++ x ∷ [])) (filter p (ys ++ x ∷ [])) ≡ cond b (y ∷ filter p ys) (filter p ys) ++ cond (p x) (x ∷ []) []
    push_case true e = ap (λ l. y ∷ l) e
    push_case false e = e

-- one more end of the vertex w, which stands behind the others
pub grown : (before front now more : List ℕ) (end : ℕ) (b : Bool) → now ≡ before ++ cond b front []
    → more ≡ now ++ cond b (end ∷ []) [] → more ≡ before ++ cond b (front ++ end ∷ []) []
grown before front now more end true e f = f ∙ ap (λ l. l ++ end ∷ []) e ∙ append_assoc before front (end ∷ [])
grown before front now more end false e f = f ∙ append-nil now ∙ e

pub grown_some : (before front now more : List ℕ) (end : ℕ) (b c : Bool) → now ≡ before ++ cond b front []
    → more ≡ cond c (now ++ cond b (end ∷ []) []) now → more ≡ before ++ cond b (front ++ cond c (end ∷ []) []) []
grown_some before front now more end b true e f = grown before front now more end b e f
grown_some before front now more end true false e f = f ∙ e ∙ ap (λ l. before ++ l) (sym (append-nil front))
grown_some before front now more end false false e f = f ∙ e

pub kept_lined : (near far near' far' : List ℕ) (w end : ℕ) (c : Bool) → near' ≡ cond c (near ++ w ∷ []) near → far' ≡ cond c (far ++ end ∷ []) far
    → length near ≡ length far → length near' ≡ length far'
kept_lined near far near' far' w end true e f l = rw (e, f) (lined_push near far w end l)
kept_lined near far near' far' w end false e f l = rw (e, f) l

pub kept_far : (near far near' far' : List ℕ) (w end u : ℕ) (c : Bool) → near' ≡ cond c (near ++ w ∷ []) near → far' ≡ cond c (far ++ end ∷ []) far
    → length near ≡ length far → far_at near' far' u ≡ cond c (far_at near far u ++ cond (nat_eq w u) (end ∷ []) []) (far_at near far u)
kept_far near far near' far' w end u true e f l = rw (e, f) (far_push near far w end u l)
kept_far near far near' far' w end u false e f l = rw (e, f) refl

pub stands_more : (ids : List ℕ) (i v : ℕ) → i < length ids → stands_in (take (i + 1) ids) v ≡ (stands_in (take i ids) v || nat_eq (get_or ids i 0) v)
stands_more ids i v l = list_any_more (λ id. nat_eq id v) ids i 0 l

-- the next of distinct vertices does not stand before
pub stands_once : (ids : List ℕ) (i : ℕ) → ((v : ℕ) → count_of ids v ≤ 1) → i < length ids → stands_in (take i ids) (get_or ids i 0) ≡ false
stands_once ids i once l = absent (stands_in (take i ids) (get_or ids i 0)) refl
  where
    absent : (b : Bool) → stands_in (take i ids) (get_or ids i 0) ≡ b → b ≡ false
    absent false e = refl
    absent true e =
        let v = get_or ids i 0 in
        let some = count_stands (take i ids) v e in
        let more : count_of (take (i + 1) ids) v ≡ count_of (take i ids) v + bit (nat_eq v v) = ap (λ xs. count_of xs v) (take_more ids i 0 l) ∙ count_push (take i ids) v v in
        let own : bit (nat_eq v v) ≡ 1 = ap bit (eqb_self v) in
        let whole : count_of ids v ≡ count_of (take (i + 1) ids) v + count_of (drop (i + 1) ids) v =
        ap (λ xs. count_of xs v) (sym (take-append-drop (i + 1) ids)) ∙ count_append (take (i + 1) ids) (drop (i + 1) ids) v in
        let few = once v in
        absurd (omega (arith, some, more, own, whole, few))

-- the next seed
pub seed_case : (b c t : Bool) (now more mine own : List ℕ) → (b ≡ true → (c ≡ t) × (mine ≡ own)) → now ≡ cond t own []
    → more ≡ cond c now (now ++ cond b mine []) → more ≡ cond (t || b) own []
seed_case true c t now more mine own same e f = both t e (rw ((same refl).0, (same refl).1) at f)
  where
    both : (t : Bool) → now ≡ cond t own [] → more ≡ cond t now (now ++ own) → more ≡ cond (t || true) own []
    both true e f = f ∙ e
    both false e f = f ∙ ap (λ l. l ++ own) e
seed_case false true true now more mine own same e f = f ∙ e
seed_case false true false now more mine own same e f = f ∙ e
seed_case false false true now more mine own same e f = f ∙ append-nil now ∙ e
seed_case false false false now more mine own same e f = f ∙ append-nil now ∙ e

-- the edges of the window

users_case : (m s q t : Bool) (x : Item) (edges front : List Item) (u : ℕ) → nat_eq x.user u ≡ q → (q ≡ true → s ≡ t)
    → far_at (users_of edges) (posts_of edges) u ≡ cond t (map (λ (e : ℕ × Kind). e.0) (map (end_across User) front)) []
    → far_at (users_of (cond (m && s) (x ∷ edges) edges)) (posts_of (cond (m && s) (x ∷ edges) edges)) u
    ≡ cond t (map (λ (e : ℕ × Kind). e.0) (map (end_across User) (cond (q && m) (x ∷ front) front))) []
unfolding far_at
users_case false s true t x edges front u e same is = is
users_case false s false t x edges front u e same is = is
users_case true true true true x edges front u e same is = rw e (ap (λ l. x.post ∷ l) is)
users_case true true true false x edges front u e same is = absurd (let bad : true ≡ false = same refl in cc)
users_case true true false t x edges front u e same is = rw e is
users_case true false true true x edges front u e same is = absurd (let bad : false ≡ true = same refl in cc)
users_case true false true false x edges front u e same is = is
users_case true false false t x edges front u e same is = is

pub users_at : (items : List Item) (seeds : List ℕ) (mask : Mask) (u : ℕ)
    → far_at (users_of (edges_of items seeds mask)) (posts_of (edges_of items seeds mask)) u ≡ cond (stands_in seeds u) (ends_at items User u mask) []
unfolding edges_of ends far_at
users_at [] seeds mask u = none_case (stands_in seeds u)
  where
    none_case : (t : Bool) → [] ≡ cond {A = List ℕ} t [] []
    none_case true = refl
    none_case false = refl
users_at (x ∷ xs) seeds mask u =
    users_case (passes mask x) (stands_in seeds x.user) (nat_eq x.user u) (stands_in seeds u) x (edges_of xs seeds mask)
    (filter (is_eligible User u mask) xs) u refl (λ e. ap (λ v. stands_in seeds v) (eqb_same x.user u e)) (users_at xs seeds mask u)

posts_case : (m s q : Bool) (x : Item) (edges front : List Item) (seeds : List ℕ) (p : ℕ) → nat_eq x.post p ≡ q → stands_in seeds x.user ≡ s
    → far_at (posts_of edges) (users_of edges) p ≡ filter (stands_in seeds) (map (λ (e : ℕ × Kind). e.0) (map (end_across Post) front))
    → far_at (posts_of (cond (m && s) (x ∷ edges) edges)) (users_of (cond (m && s) (x ∷ edges) edges)) p
    ≡ filter (stands_in seeds) (map (λ (e : ℕ × Kind). e.0) (map (end_across Post) (cond (q && m) (x ∷ front) front)))
unfolding far_at
posts_case false s true x edges front seeds p e f is = is
posts_case false s false x edges front seeds p e f is = is
posts_case true true true x edges front seeds p e f is = rw (e, f) (ap (λ l. x.user ∷ l) is)
posts_case true true false x edges front seeds p e f is = rw e is
posts_case true false true x edges front seeds p e f is = rw f is
posts_case true false false x edges front seeds p e f is = is

pub posts_at : (items : List Item) (seeds : List ℕ) (mask : Mask) (p : ℕ)
    → far_at (posts_of (edges_of items seeds mask)) (users_of (edges_of items seeds mask)) p ≡ filter (stands_in seeds) (ends_at items Post p mask)
unfolding edges_of ends far_at
posts_at [] seeds mask p = refl
posts_at (x ∷ xs) seeds mask p =
    posts_case (passes mask x) (stands_in seeds x.user) (nat_eq x.post p) x (edges_of xs seeds mask)
    (filter (is_eligible Post p mask) xs) seeds p refl refl (posts_at xs seeds mask p)

pub window_lined : (edges : List Item) → length (users_of edges) ≡ length (posts_of edges)
window_lined [] = refl
window_lined (x ∷ xs) = ap suc (window_lined xs)

pub user_edges_same : (items : List Item) (seeds : List ℕ) (mask : Mask) (near far : List ℕ) → length near ≡ length far
    → ((u : ℕ) → far_at near far u ≡ cond (stands_in seeds u) (ends_at items User u mask) [])
    → HaveSameEdges near far (users_of (edges_of items seeds mask)) (posts_of (edges_of items seeds mask))
user_edges_same items seeds mask near far l f = record {
  lined = l;
  lined_too = window_lined (edges_of items seeds mask);
  ends = λ u. f u ∙ sym (users_at items seeds mask u);
}

none_of : (xs : List ℕ) → length xs ≡ 0 → xs ≡ []
none_of [] e = refl
none_of (x ∷ xs) e = absurd (omega arith)

filter_same : (p q : ℕ → Bool) (xs : List ℕ) → ((v : ℕ) → p v ≡ q v) → filter p xs ≡ filter q xs
filter_same p q xs e = ap (λ (f : ℕ → Bool). filter f xs) (fun_ext e)

-- the edges that lie by the posts of the edges by users
pub post_edges_same : (items : List Item) (seeds : List ℕ) (mask : Mask) (near far near' far' names : List ℕ) (among : ℕ → Bool)
    → HaveSameEdges near far (users_of (edges_of items seeds mask)) (posts_of (edges_of items seeds mask)) → names ≡ vertices far
    → ((user : ℕ) → among user ≡ stands_in seeds user) → length near' ≡ length far'
    → ((p : ℕ) → far_at near' far' p ≡ cond (stands_in names p) (filter among (ends_at items Post p mask)) [])
    → HaveSameEdges near' far' (posts_of (edges_of items seeds mask)) (users_of (edges_of items seeds mask))
post_edges_same items seeds mask near far near' far' names among same named is l f = record {
  lined = l;
  lined_too = sym (window_lined (edges_of items seeds mask));
  ends = λ p. end_case p (stands_in names p) refl (f p);
}
  where
    end_case : (p : ℕ) (b : Bool) → stands_in names p ≡ b → far_at near' far' p ≡ cond b (filter among (ends_at items Post p mask)) []
        → far_at near' far' p ≡ far_at (posts_of (edges_of items seeds mask)) (users_of (edges_of items seeds mask)) p
    end_case p true e g = g ∙ filter_same among (stands_in seeds) (ends_at items Post p mask) is ∙ sym (posts_at items seeds mask p)
    end_case p false e g =
        let users = users_of (edges_of items seeds mask) in
        let posts = posts_of (edges_of items seeds mask) in
        let absent : stands_in far p ≡ false = stands_vertices far p (rw (← named) e) in
        let none = uncounted far p absent in
        let count = same_far_count near far users posts p same in
        let long = count_far posts users p (sym (window_lined (edges_of items seeds mask))) in
        g ∙ sym (none_of (far_at posts users p) (omega (arith, none, count, long)))
