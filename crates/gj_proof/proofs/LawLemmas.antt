-- The law of rankings: order, distinct posts, and what is left out.
use Rattle.std.proofs.Common.{◌≡◌, ℕ, zero, suc, ◌<◌, ◌≤◌, ◌∙◌, ◌++◌, ◌||◌, ◌&&◌, not, min, Bool, true, false, cond, nat_eq, eq-eqb, List, [], ◌∷◌, length, take, get_or, filter, map, fold, ap, sym, refl, arith, append-nil, IsTrue, All, Contains, inl, inr}
use Rattle.std.specs.List.{list_any}
use Rattle.std.specs.List.Sorted.{IsPermutation}
use Rattle.std.proofs.lemmas.Bool.Decides.{nat_tests}
use Rattle.std.proofs.lemmas.Bool.{cases_lt}
use Rattle.std.proofs.lemmas.List.{length-take, get_or-take}
use Rattle.std.proofs.lemmas.List.Elements.{All-nil, All-cons, All-head, All-tail, Contains-append_right, All-take, All-contains_itself}
use Rattle.std.proofs.lemmas.List.Sorted.{IsPermutation-refl, IsPermutation-cons, IsPermutation-trans, IsPermutation-middle, IsPermutation-append_left, length_permutation, Contains-permutation, All-permutation}
use Rattle.gj_base.specs.declared.item.Item.{Item}
use Rattle.gj_base.specs.Asks.{are_distinct}
use Rattle.gj_proof.specs.Ranking.{comes_before, placed, by_rank, AreByRank, is_shown, unexplained, ranked_of}
use Rattle.gj_proof.specs.Laws.{IsRanking, pair_of, posts_of}
use Rattle.gj_proof.proofs.RankLemmas.{none_before_at, by_rank_placed, by_rank_take, by_rank_empty}

and_parts : (a b : Bool) → (a && b) ≡ true → (a ≡ true) × (b ≡ true)
and_parts true b e = (refl, e)
and_parts false b e = absurd (let bad : false ≡ true = e in cc)

not_true : (b : Bool) → not b ≡ true → b ≡ false
not_true true e = absurd (let bad : false ≡ true = e in cc)
not_true false e = refl

or_swap : (a b c : Bool) → (a || (b || c)) ≡ (b || (a || c))
or_swap true true c = refl
or_swap true false c = refl
or_swap false b c = refl

and_swap : (e f g h d : Bool) → e ≡ f → (not (e || g) && (not h && d)) ≡ (not (f || h) && (not g && d))
and_swap true true g h d s = refl
and_swap true false g h d s = absurd (let bad : true ≡ false = s in cc)
and_swap false true g h d s = absurd (let bad : false ≡ true = s in cc)
and_swap false false true true d s = refl
and_swap false false true false d s = refl
and_swap false false false true d s = refl
and_swap false false false false d s = refl

eqb_sym : (a b : ℕ) → nat_eq a b ≡ nat_eq b a
eqb_sym a b = grind (arith, nat_tests)

-- the post stands among the pairs
abbrev has : ℕ → List (ℕ × ℕ) → Bool
has post xs = list_any (λ other. nat_eq other post) (posts_of xs)

-- order

later_not_before : (xs : List (ℕ × ℕ)) → AreByRank xs → (i j : ℕ) (d : ℕ × ℕ) → i < j → j < length xs
    → comes_before (get_or xs j d) (get_or xs i d) ≡ false
unfolding AreByRank
later_not_before [] h i j d l m = absurd (omega arith)
later_not_before (x ∷ xs) h i zero d l m = absurd (omega arith)
later_not_before (x ∷ xs) h zero (suc j) d l m = none_before_at x xs j d h.0 (omega arith)
later_not_before (x ∷ xs) h (suc i) (suc j) d l m = later_not_before xs h.1 i j d (omega arith) (omega arith)

fold_by_rank : (rest done : List (ℕ × ℕ)) → AreByRank done → AreByRank (fold placed done rest)
fold_by_rank [] done h = h
fold_by_rank (pair ∷ rest) done h = fold_by_rank rest (placed done pair) (by_rank_placed done pair h)

before_total : (a b : ℕ × ℕ) → comes_before b a ≡ false → (a.0 ≡ b.0 → ⊥) → comes_before a b ≡ true
before_total a b e f = grind (arith, nat_tests)

-- the same pairs

placed_permutation : (xs : List (ℕ × ℕ)) (pair : ℕ × ℕ) → IsPermutation (pair ∷ xs) (placed xs pair)
unfolding placed
placed_permutation [] pair = IsPermutation-refl (pair ∷ [])
placed_permutation (x ∷ xs) pair =
    elim (comes_before x pair) as (λ b. IsPermutation (pair ∷ x ∷ xs) (cond b (x ∷ placed xs pair) (pair ∷ x ∷ xs))) [
      | true ↦ IsPermutation-trans (pair ∷ x ∷ xs) (x ∷ pair ∷ xs) (x ∷ placed xs pair) (IsPermutation-middle (pair ∷ []) x xs)
          (IsPermutation-cons x (pair ∷ xs) (placed xs pair) (placed_permutation xs pair))
      | false ↦ IsPermutation-refl (pair ∷ x ∷ xs)
    ]

fold_permutation : (rest done : List (ℕ × ℕ)) → IsPermutation (done ++ rest) (fold placed done rest)
fold_permutation [] done = rw (append-nil done) (IsPermutation-refl done)
fold_permutation (pair ∷ rest) done =
    IsPermutation-trans (done ++ pair ∷ rest) (pair ∷ (done ++ rest)) (fold placed (placed done pair) rest) (IsPermutation-middle done pair rest)
    (IsPermutation-trans (pair ∷ (done ++ rest)) (placed done pair ++ rest) (fold placed (placed done pair) rest)
    (IsPermutation-append_left rest (pair ∷ done) (placed done pair) (placed_permutation done pair)) (fold_permutation rest (placed done pair)))

-- distinct posts

has_case : (b : Bool) (post : ℕ) (xs : List (ℕ × ℕ)) (x pair : ℕ × ℕ) → has post (placed xs pair) ≡ (nat_eq pair.0 post || has post xs)
    → has post (cond b (x ∷ placed xs pair) (pair ∷ x ∷ xs)) ≡ (nat_eq pair.0 post || (nat_eq x.0 post || has post xs))
has_case true post xs x pair e = rw e (or_swap (nat_eq x.0 post) (nat_eq pair.0 post) (has post xs))
has_case false post xs x pair e = refl

has_placed : (post : ℕ) (xs : List (ℕ × ℕ)) (pair : ℕ × ℕ) → has post (placed xs pair) ≡ (nat_eq pair.0 post || has post xs)
unfolding placed
has_placed post [] pair = refl
has_placed post (x ∷ xs) pair = has_case (comes_before x pair) post xs x pair (has_placed post xs pair)

has_after : (ys : List (ℕ × ℕ)) (post : ℕ) (xs : List (ℕ × ℕ)) (pair : ℕ × ℕ) → has post (ys ++ placed xs pair) ≡ (nat_eq pair.0 post || has post (ys ++ xs))
has_after [] post xs pair = has_placed post xs pair
has_after (y ∷ ys) post xs pair = rw (has_after ys post xs pair) (or_swap (nat_eq y.0 post) (nat_eq pair.0 post) (has post (ys ++ xs)))

distinct_case : (b : Bool) (xs : List (ℕ × ℕ)) (x pair : ℕ × ℕ)
    → are_distinct (posts_of (placed xs pair)) ≡ (not (has pair.0 xs) && are_distinct (posts_of xs))
    → are_distinct (posts_of (cond b (x ∷ placed xs pair) (pair ∷ x ∷ xs)))
    ≡ (not (nat_eq x.0 pair.0 || has pair.0 xs) && (not (has x.0 xs) && are_distinct (posts_of xs)))
distinct_case true xs x pair e =
    rw (has_placed x.0 xs pair, e)
    (and_swap (nat_eq pair.0 x.0) (nat_eq x.0 pair.0) (has x.0 xs) (has pair.0 xs) (are_distinct (posts_of xs)) (eqb_sym pair.0 x.0))
distinct_case false xs x pair e = refl

distinct_placed : (xs : List (ℕ × ℕ)) (pair : ℕ × ℕ)
    → are_distinct (posts_of (placed xs pair)) ≡ (not (has pair.0 xs) && are_distinct (posts_of xs))
unfolding placed
distinct_placed [] pair = refl
distinct_placed (x ∷ xs) pair = distinct_case (comes_before x pair) xs x pair (distinct_placed xs pair)

distinct_after : (ys xs : List (ℕ × ℕ)) (pair : ℕ × ℕ)
    → are_distinct (posts_of (ys ++ placed xs pair)) ≡ (not (has pair.0 (ys ++ xs)) && are_distinct (posts_of (ys ++ xs)))
distinct_after [] xs pair = distinct_placed xs pair
distinct_after (y ∷ ys) xs pair =
    rw (has_after ys y.0 xs pair, distinct_after ys xs pair)
    (and_swap (nat_eq pair.0 y.0) (nat_eq y.0 pair.0) (has y.0 (ys ++ xs)) (has pair.0 (ys ++ xs)) (are_distinct (posts_of (ys ++ xs))) (eqb_sym pair.0 y.0))

fold_distinct : (rest done : List (ℕ × ℕ)) → are_distinct (posts_of (rest ++ done)) ≡ true → are_distinct (posts_of (fold placed done rest)) ≡ true
fold_distinct [] done e = e
fold_distinct (pair ∷ rest) done e = fold_distinct rest (placed done pair) (distinct_after rest done pair ∙ e)

or_no : (a b : Bool) → (a || b) ≡ false → (a ≡ false) × (b ≡ false)
or_no true b e = absurd (let bad : true ≡ false = e in cc)
or_no false b e = (refl, e)

has_take : (post : ℕ) (xs : List (ℕ × ℕ)) (n : ℕ) → has post xs ≡ false → has post (take n xs) ≡ false
has_take post xs zero e = refl
has_take post [] (suc n) e = refl
has_take post (x ∷ xs) (suc n) e =
    let parts = or_no (nat_eq x.0 post) (has post xs) e in
    rw (parts.0) (has_take post xs n parts.1)

distinct_take : (xs : List (ℕ × ℕ)) (n : ℕ) → are_distinct (posts_of xs) ≡ true → are_distinct (posts_of (take n xs)) ≡ true
distinct_take xs zero e = refl
distinct_take [] (suc n) e = refl
distinct_take (x ∷ xs) (suc n) e =
    let parts = and_parts (not (has x.0 xs)) (are_distinct (posts_of xs)) e in
    rw (has_take x.0 xs n (not_true _ parts.0)) (distinct_take xs n parts.1)

has_filter : (p : ℕ × ℕ → Bool) (post : ℕ) (xs : List (ℕ × ℕ)) → has post xs ≡ false → has post (filter p xs) ≡ false
has_filter p post [] e = refl
has_filter p post (x ∷ xs) e =
    let parts = or_no (nat_eq x.0 post) (has post xs) e in
    elim (p x) as (λ b. has post (cond b (x ∷ filter p xs) (filter p xs)) ≡ false)
    [ true ↦ rw (parts.0) (has_filter p post xs parts.1) | false ↦ has_filter p post xs parts.1 ]

distinct_filter : (p : ℕ × ℕ → Bool) (xs : List (ℕ × ℕ)) → are_distinct (posts_of xs) ≡ true → are_distinct (posts_of (filter p xs)) ≡ true
distinct_filter p [] e = refl
distinct_filter p (x ∷ xs) e =
    let parts = and_parts (not (has x.0 xs)) (are_distinct (posts_of xs)) e in
    elim (p x) as (λ b. are_distinct (posts_of (cond b (x ∷ filter p xs) (filter p xs))) ≡ true)
    [ true ↦ rw (has_filter p x.0 xs (not_true _ parts.0)) (distinct_filter p xs parts.1) | false ↦ distinct_filter p xs parts.1 ]

has_at : (xs : List (ℕ × ℕ)) (j : ℕ) (d : ℕ × ℕ) (post : ℕ) → j < length xs → post ≡ (get_or xs j d).0 → has post xs ≡ false → ⊥
has_at [] j d post l e none = absurd (omega arith)
has_at (x ∷ xs) zero d post l e none =
    let parts = or_no (nat_eq x.0 post) (has post xs) none in
    let same : nat_eq x.0 post ≡ true = eq-eqb x.0 post (sym e) in
    let bad : true ≡ false = sym same ∙ parts.0 in
    absurd (cc)
has_at (x ∷ xs) (suc j) d post l e none = has_at xs j d post (omega arith) e (or_no (nat_eq x.0 post) (has post xs) none).1

distinct_at : (xs : List (ℕ × ℕ)) → are_distinct (posts_of xs) ≡ true → (i j : ℕ) (d : ℕ × ℕ) → i < j → j < length xs
    → (get_or xs i d).0 ≡ (get_or xs j d).0 → ⊥
distinct_at [] e i j d l m s = absurd (omega arith)
distinct_at (x ∷ xs) e i zero d l m s = absurd (omega arith)
distinct_at (x ∷ xs) e zero (suc j) d l m s =
    has_at xs j d x.0 (omega arith) s (not_true _ (and_parts (not (has x.0 xs)) (are_distinct (posts_of xs)) e).0)
distinct_at (x ∷ xs) e (suc i) (suc j) d l m s =
    distinct_at xs (and_parts (not (has x.0 xs)) (are_distinct (posts_of xs)) e).1 i j d (omega arith) (omega arith) s

-- a member of a filter

filter_all : (p : ℕ × ℕ → Bool) (xs ys : List (ℕ × ℕ)) → All (Contains ys) xs → All (λ x. Contains ys x × IsTrue (p x)) (filter p xs)
filter_all p [] ys h = All-nil (λ x. Contains ys x × IsTrue (p x))
filter_all p (x ∷ xs) ys h =
    filter_all_case (p x) p x xs ys refl (All-head (Contains ys) x xs h) (filter_all p xs ys (All-tail (Contains ys) x xs h))
  where
    filter_all_case : (b : Bool) (p : ℕ × ℕ → Bool) (x : ℕ × ℕ) (xs ys : List (ℕ × ℕ)) → p x ≡ b → Contains ys x
        → All (λ x. Contains ys x × IsTrue (p x)) (filter p xs) → All (λ x. Contains ys x × IsTrue (p x)) (cond b (x ∷ filter p xs) (filter p xs))
    filter_all_case true p x xs ys e h rest = All-cons (λ x. Contains ys x × IsTrue (p x)) x (filter p xs) (h, e) rest
    filter_all_case false p x xs ys e h rest = rest

contains_cons : (x y : ℕ × ℕ) (xs : List (ℕ × ℕ)) → Contains xs y → Contains (x ∷ xs) y
contains_cons x y xs h = Contains-append_right (x ∷ []) xs y h

filter_contains : (p : ℕ × ℕ → Bool) (xs : List (ℕ × ℕ)) (x : ℕ × ℕ) → Contains xs x → p x ≡ true → Contains (filter p xs) x
filter_contains p [] x (k, l, is) e = absurd (omega arith)
filter_contains p (y ∷ ys) x (zero, l, is) e =
    let passes : p y ≡ true = rw is e in
    rw passes (zero, omega arith, is)
filter_contains p (y ∷ ys) x (suc k, l, is) e =
    let rest = filter_contains p ys x (k, omega arith, is) e in
    elim (p y) as (λ b. Contains (cond b (y ∷ filter p ys) (filter p ys)) x) [ true ↦ contains_cons y x (filter p ys) rest | false ↦ rest ]

-- the pairs of a ranking are the pairs that were ranked

pairs_back : (pairs : List (ℕ × ℕ)) → map pair_of (map unexplained pairs) ≡ pairs
pairs_back [] = refl
pairs_back (x ∷ xs) = ap (λ l. x ∷ l) (pairs_back xs)

get_or_any : (xs : List (ℕ × ℕ)) (i : ℕ) (d e : ℕ × ℕ) → i < length xs → get_or xs i d ≡ get_or xs i e
get_or_any [] i d e l = absurd (omega arith)
get_or_any (x ∷ xs) zero d e l = refl
get_or_any (x ∷ xs) (suc i) d e l = get_or_any xs i d e (omega arith)

best_of_all : (top : ℕ) (ys : List (ℕ × ℕ)) → AreByRank ys → (out kept : ℕ × ℕ) → Contains ys out → (Contains (take top ys) out → ⊥)
    → Contains (take top ys) kept → comes_before out kept ≡ false
best_of_all top ys order out kept (j, l, is) absent (i, m, was) =
    let within : i < min top (length ys) = rw (← length-take top ys) m in
    let in_top : i < top = omega arith in
    let past : top ≤ j = elim (cases_lt j top) [ inl h ↦ absurd (absent (front h)) | inr h ↦ h ] in
    let first : get_or ys i out ≡ kept = get_or_any ys i out kept (omega arith) ∙ sym (get_or-take top ys i kept in_top) ∙ was in
    rw (is, first) at (later_not_before ys order i j out (omega arith) l)
  where
    front : j < top → Contains (take top ys) out
    front h = (j, (let short : j < min top (length ys) = omega arith in rw (length-take top ys) short), get_or-take top ys j out h ∙ is)

pub ranking_is : (items : List Item) (seeds : List ℕ) (pairs : List (ℕ × ℕ)) (hide : Bool) (top : ℕ) → are_distinct (posts_of pairs) ≡ true
    → IsRanking items seeds pairs hide top (take top (by_rank (filter (is_shown items seeds hide) pairs)))
ranking_is items seeds pairs hide top e =
    let shown = is_shown items seeds hide in
    let kept = filter shown pairs in
    let ranked = by_rank kept in
    let order : AreByRank ranked = fold_by_rank kept [] (by_rank_empty [] refl) in
    let same : IsPermutation kept ranked = fold_permutation kept [] in
    let apart : are_distinct (posts_of ranked) ≡ true = fold_distinct kept [] (rw (append-nil kept) (distinct_filter shown pairs e)) in
    record {
      ordered = λ i j d l m.
          before_total (get_or (take top ranked) i d) (get_or (take top ranked) j d)
          (later_not_before (take top ranked) (by_rank_take ranked top order) i j d l m)
          (distinct_at (take top ranked) (distinct_take ranked top apart) i j d l m);
      distinct = distinct_take ranked top apart;
      among = All-take (λ x. Contains pairs x × IsTrue (shown x)) top ranked
          (All-permutation (λ x. Contains pairs x × IsTrue (shown x)) kept ranked same (filter_all shown pairs pairs (All-contains_itself pairs)));
      many = length-take top ranked ∙ ap (min top) (length_permutation kept ranked same);
      best = λ out inside has_out may absent has_in.
          best_of_all top ranked order out inside (Contains-permutation kept ranked out same (filter_contains shown pairs out has_out may)) absent has_in;
    }

pub law : (items : List Item) (seeds : List ℕ) (pairs : List (ℕ × ℕ)) (hide : Bool) (top : ℕ) → are_distinct (posts_of pairs) ≡ true
    → IsRanking items seeds pairs hide top (map pair_of (ranked_of items seeds pairs hide top))
unfolding ranked_of
law items seeds pairs hide top e = rw (pairs_back (take top (by_rank (filter (is_shown items seeds hide) pairs)))) (ranking_is items seeds pairs hide top e)
