-- Pairs by rank.
use Rattle.std.proofs.Common.{◌≡◌, ℕ, zero, suc, ◌-◌, ◌<◌, ◌≤◌, ◌∙◌, ◌++◌, Bool, true, false, cond, List, [], ◌∷◌, length, take, drop, get_or, insert, filter, not, fold, ap, subst, sym, refl, arith, sub-one}
use Rattle.std.proofs.lemmas.Bool.Decides.{nat_tests}
use Rattle.gj_proof.specs.Ranking.{comes_before, placed, NoneBefore, AreByRank}

-- what is not after a pair that comes before a third comes before the third too
pub before_trans : (a b c : ℕ × ℕ) → comes_before b a ≡ false → comes_before b c ≡ true → comes_before a c ≡ true
before_trans a b c e f = grind (arith, nat_tests)

pub before_weak : (a b c : ℕ × ℕ) → comes_before b a ≡ false → comes_before c b ≡ false → comes_before c a ≡ false
before_weak a b c e f = grind (arith, nat_tests)

pub before_asym : (a b : ℕ × ℕ) → comes_before a b ≡ true → comes_before b a ≡ false
before_asym a b e = grind (arith, nat_tests)

pub none_before_at : (pair : ℕ × ℕ) (xs : List (ℕ × ℕ)) (i : ℕ) (d : ℕ × ℕ) → NoneBefore pair xs → i < length xs → comes_before (get_or xs i d) pair ≡ false
unfolding NoneBefore
none_before_at pair [] i d h l = absurd (omega arith)
none_before_at pair (x ∷ xs) zero d h l = h.0
none_before_at pair (x ∷ xs) (suc i) d h l = none_before_at pair xs i d h.1 (omega arith)

-- the place of a pair, seen from the back
pub placed_at : (xs : List (ℕ × ℕ)) (n : ℕ) (pair d : ℕ × ℕ) → AreByRank xs → n ≤ length xs
    → ((m : ℕ) → n ≡ suc m → comes_before (get_or xs m d) pair ≡ true) → (n < length xs → comes_before (get_or xs n d) pair ≡ false)
    → placed xs pair ≡ take n xs ++ pair ∷ drop n xs
unfolding placed AreByRank
placed_at [] zero pair d o h f g = refl
placed_at [] (suc n) pair d o h f g = absurd (omega arith)
placed_at (x ∷ xs) zero pair d o h f g =
    let no : comes_before x pair ≡ false = g (omega arith) in
    rw no refl
placed_at (x ∷ xs) (suc zero) pair d o h f g =
    let yes : comes_before x pair ≡ true = f zero refl in
    rw yes (ap (λ l. x ∷ l) (placed_at xs zero pair d o.1 (omega arith) (λ m e. absurd (omega arith)) (λ l. g (omega arith))))
placed_at (x ∷ xs) (suc (suc n)) pair d o h f g =
    let last : comes_before (get_or xs n d) pair ≡ true = f (suc n) refl in
    let yes : comes_before x pair ≡ true = before_trans x (get_or xs n d) pair (none_before_at x xs n d o.0 (omega arith)) last in
    rw yes (ap (λ l. x ∷ l) (placed_at xs (suc n) pair d o.1 (omega arith) (λ m e. let same : m ≡ n = omega arith in rw same last) (λ l. g (omega arith))))

pub none_before_take : (pair : ℕ × ℕ) (xs : List (ℕ × ℕ)) (n : ℕ) → NoneBefore pair xs → NoneBefore pair (take n xs)
unfolding NoneBefore
none_before_take pair xs zero h = tt
none_before_take pair [] (suc n) h = tt
none_before_take pair (x ∷ xs) (suc n) h = (h.0, none_before_take pair xs n h.1)

pub by_rank_take : (xs : List (ℕ × ℕ)) (n : ℕ) → AreByRank xs → AreByRank (take n xs)
unfolding AreByRank
by_rank_take xs zero h = tt
by_rank_take [] (suc n) h = tt
by_rank_take (x ∷ xs) (suc n) h = (none_before_take x xs n h.0, by_rank_take xs n h.1)

pub none_before_placed : (first pair : ℕ × ℕ) (xs : List (ℕ × ℕ)) → NoneBefore first xs → comes_before pair first ≡ false → NoneBefore first (placed xs pair)
unfolding NoneBefore placed
none_before_placed first pair [] h e = (e, tt)
none_before_placed first pair (x ∷ xs) h e =
    elim (comes_before x pair) as (λ b. NoneBefore first (cond b (x ∷ placed xs pair) (pair ∷ x ∷ xs)))
    [ true ↦ (h.0, none_before_placed first pair xs h.1 e) | false ↦ (e, h) ]

pub none_before_all : (first second : ℕ × ℕ) (xs : List (ℕ × ℕ)) → comes_before second first ≡ false → NoneBefore second xs → NoneBefore first xs
unfolding NoneBefore
none_before_all first second [] e h = tt
none_before_all first second (x ∷ xs) e h = (before_weak first second x e h.0, none_before_all first second xs e h.1)

by_rank_case : (b : Bool) (x pair : ℕ × ℕ) (xs : List (ℕ × ℕ)) → comes_before x pair ≡ b → NoneBefore x xs → AreByRank xs → AreByRank (placed xs pair)
    → AreByRank (cond b (x ∷ placed xs pair) (pair ∷ x ∷ xs))
unfolding AreByRank NoneBefore
by_rank_case true x pair xs e h o p = (none_before_placed x pair xs h (before_asym x pair e), p)
by_rank_case false x pair xs e h o p = ((e, none_before_all pair x xs e h), (h, o))

pub by_rank_placed : (xs : List (ℕ × ℕ)) (pair : ℕ × ℕ) → AreByRank xs → AreByRank (placed xs pair)
unfolding AreByRank NoneBefore placed
by_rank_placed [] pair h = (tt, tt)
by_rank_placed (x ∷ xs) pair h = by_rank_case (comes_before x pair) x pair xs refl h.0 h.1 (by_rank_placed xs pair h.1)

-- the first of a list with one more, where that is put into the first of the list
keep_first : {A : Type 0} (xs : List A) (n t : ℕ) (x : A) → n ≤ t
    → take (suc t) (take n xs ++ x ∷ drop n xs) ≡ take n (take t xs) ++ x ∷ drop n (take t xs)
keep_first xs zero t x h = refl
keep_first [] (suc n) zero x h = refl
keep_first [] (suc n) (suc t) x h = refl
keep_first (y ∷ ys) (suc n) zero x h = absurd (omega arith)
keep_first (y ∷ ys) (suc n) (suc t) x h = ap (λ l. y ∷ l) (keep_first ys n t x (omega arith))

pub keep_top : (xs : List (ℕ × ℕ)) (n top : ℕ) (x : ℕ × ℕ) (all : List (ℕ × ℕ)) → n < top → all ≡ take n xs ++ x ∷ drop n xs
    → insert (take (top - 1) xs) n x ≡ take top all
keep_top xs n zero x all h e = absurd (omega arith)
keep_top xs n (suc t) x all h e = rw (e, sub-one) (sym (keep_first xs n t x (omega arith)))

take_put : (x : ℕ × ℕ) (t : ℕ) (xs : List (ℕ × ℕ)) → take t (x ∷ take t xs) ≡ take t (x ∷ xs)
take_put x zero xs = refl
take_put x (suc t) xs = ap (λ l. x ∷ l) (take_less t xs)
  where
    take_less : (t : ℕ) (xs : List (ℕ × ℕ)) → take t (take (suc t) xs) ≡ take t xs
    take_less zero xs = refl
    take_less (suc t) [] = refl
    take_less (suc t) (x ∷ xs) = ap (λ l. x ∷ l) (take_less t xs)

placed_case : (b : Bool) (top : ℕ) (x pair : ℕ × ℕ) (xs : List (ℕ × ℕ)) → take top (placed (take top xs) pair) ≡ take top (placed xs pair)
    → take (suc top) (cond b (x ∷ placed (take top xs) pair) (pair ∷ x ∷ take top xs)) ≡ take (suc top) (cond b (x ∷ placed xs pair) (pair ∷ x ∷ xs))
placed_case true top x pair xs e = ap (λ l. x ∷ l) e
placed_case false top x pair xs e = ap (λ l. pair ∷ l) (take_put x top xs)

-- what is not among the first is not needed for them
pub placed_take : (top : ℕ) (xs : List (ℕ × ℕ)) (pair : ℕ × ℕ) → take top (placed (take top xs) pair) ≡ take top (placed xs pair)
unfolding placed
placed_take zero xs pair = refl
placed_take (suc top) [] pair = refl
placed_take (suc top) (x ∷ xs) pair = placed_case (comes_before x pair) top x pair xs (placed_take top xs pair)

pub fold_take : (top : ℕ) (xs ys rest : List (ℕ × ℕ)) → take top xs ≡ take top ys → take top (fold placed xs rest) ≡ take top (fold placed ys rest)
fold_take top xs ys [] e = e
fold_take top xs ys (pair ∷ rest) e =
    fold_take top (placed xs pair) (placed ys pair) rest
    (sym (placed_take top xs pair) ∙ ap (λ l. take top (placed l pair)) e ∙ placed_take top ys pair)

take_all : (top : ℕ) (xs : List (ℕ × ℕ)) → take top (take top xs) ≡ take top xs
take_all zero xs = refl
take_all (suc top) [] = refl
take_all (suc top) (x ∷ xs) = ap (λ l. x ∷ l) (take_all top xs)

take_whole : (top : ℕ) (xs : List (ℕ × ℕ)) → length xs ≤ top → take top xs ≡ xs
take_whole zero [] h = refl
take_whole zero (x ∷ xs) h = absurd (omega arith)
take_whole (suc top) [] h = refl
take_whole (suc top) (x ∷ xs) h = ap (λ l. x ∷ l) (take_whole top xs (omega arith))

-- one more pair of those that are considered
pub considered : (top : ℕ) (keep : ℕ × ℕ → Bool) (hidden : Bool) (best new all rest left : List (ℕ × ℕ)) (pair : ℕ × ℕ)
    → keep pair ≡ not hidden → left ≡ pair ∷ rest → new ≡ cond hidden best (take top (placed best pair))
    → take top (fold placed best (filter keep left)) ≡ all → take top (fold placed new (filter keep rest)) ≡ all
considered top keep true best new all rest left pair k l n e = rw (l, k, ← n) at e
considered top keep false best new all rest left pair k l n e =
    fold_take top new (placed best pair) (filter keep rest) (ap (λ l. take top l) n ∙ take_all top (placed best pair)) ∙ rw (l, k) at e

pub considered_all : (top : ℕ) (keep : ℕ × ℕ → Bool) (best all left : List (ℕ × ℕ)) → length best ≤ top → left ≡ []
    → take top (fold placed best (filter keep left)) ≡ all → best ≡ all
considered_all top keep best all left h l e = sym (take_whole top best h) ∙ rw l at e

pub by_rank_considered : (top : ℕ) (hidden : Bool) (best new : List (ℕ × ℕ)) (pair : ℕ × ℕ)
    → new ≡ cond hidden best (take top (placed best pair)) → AreByRank best → AreByRank new
by_rank_considered top true best new pair n o = subst AreByRank (sym n) o
by_rank_considered top false best new pair n o = subst AreByRank (sym n) (by_rank_take (placed best pair) top (by_rank_placed best pair o))

by_rank_none : AreByRank []
unfolding AreByRank
by_rank_none = tt

pub considered_none : (top : ℕ) (keep : ℕ × ℕ → Bool) (best all left : List (ℕ × ℕ)) → best ≡ [] → left ≡ all
    → take top (fold placed best (filter keep left)) ≡ take top (fold placed [] (filter keep all))
considered_none top keep best all left b l = rw (b, l) refl

pub by_rank_empty : (best : List (ℕ × ℕ)) → best ≡ [] → AreByRank best
by_rank_empty best b = subst AreByRank (sym b) by_rank_none

filter_case : {A : Type 0} (b c : Bool) (x : A) (xs ys : List A) → b ≡ c → xs ≡ ys → cond b (x ∷ xs) xs ≡ cond c (x ∷ ys) ys
filter_case b c x xs ys e f = rw (e, f) refl

pub filter_same : {A : Type 0} (p q : A → Bool) → ((x : A) → p x ≡ q x) → (xs : List A) → filter p xs ≡ filter q xs
filter_same p q e [] = refl
filter_same p q e (x ∷ xs) = filter_case (p x) (q x) x (filter p xs) (filter q xs) (e x) (filter_same p q e xs)
