-- Vertices of a side, and how many edges they have.
use Rattle.std.proofs.Common.{◌≡◌, ℕ, ◌+◌, ◌<◌, ◌∙◌, ◌++◌, ◌||◌, Bool, true, false, cond, nat_eq, List, [], ◌∷◌, fold, ap, refl, arith}
use Rattle.std.proofs.Math.Bool.{or-false}
use Rattle.std.proofs.lemmas.Bool.Decides.{nat_tests}
use Rattle.std.proofs.lemmas.List.Sums.{sum_by-cons, sum_by-append}
use Rattle.std.proofs.lemmas.List.Folds.{list_any-append}
use Rattle.gj_base.specs.Edges.{stands_in}
use Rattle.gj_subgraph.specs.Masses.{count_of, with_vertex, vertices}

abbrev pub bit : Bool → ℕ
bit b = cond b 1 0

-- P of each element
abbrev pub Every : (ℕ → Type 0) → List ℕ → Type 0
Every P [] = Unit {0}
Every P (x ∷ xs) = P x × Every P xs

pub every_weaker : (P Q : ℕ → Type 0) → ((v : ℕ) → P v → Q v) → (xs : List ℕ) → Every P xs → Every Q xs
every_weaker P Q f [] h = tt
every_weaker P Q f (x ∷ xs) h = (f x h.0, every_weaker P Q f xs h.1)

pub every_append : (P : ℕ → Type 0) (xs ys : List ℕ) → Every P xs → Every P ys → Every P (xs ++ ys)
every_append P [] ys h g = g
every_append P (x ∷ xs) ys h g = (h.0, every_append P xs ys h.1 g)

pub eqb_sym : (a b : ℕ) → nat_eq a b ≡ nat_eq b a
eqb_sym a b = grind (arith, nat_tests)

pub eqb_self : (a : ℕ) → nat_eq a a ≡ true
eqb_self a = grind (arith, nat_tests)

pub eqb_same : (a b : ℕ) → nat_eq a b ≡ true → a ≡ b
eqb_same a b e = grind (arith, nat_tests)

pub count_cons : (x : ℕ) (xs : List ℕ) (v : ℕ) → count_of (x ∷ xs) v ≡ bit (nat_eq x v) + count_of xs v
count_cons x xs v = sum_by-cons (λ id. bit (nat_eq id v)) x xs

pub count_append : (xs ys : List ℕ) (v : ℕ) → count_of (xs ++ ys) v ≡ count_of xs v + count_of ys v
count_append xs ys v = sum_by-append (λ id. bit (nat_eq id v)) xs ys

pub count_push : (xs : List ℕ) (x v : ℕ) → count_of (xs ++ x ∷ []) v ≡ count_of xs v + bit (nat_eq x v)
count_push xs x v = let one = count_append xs (x ∷ []) v in let two = count_cons x [] v in omega (arith, one, two)

or_true : (b : Bool) → (b || true) ≡ true
or_true true = refl
or_true false = refl

-- each element stands in the list
pub stands_self : (xs : List ℕ) → Every (λ v. stands_in xs v ≡ true) xs
stands_self [] = tt
stands_self (x ∷ xs) = (
  rw (eqb_self x) refl,
  every_weaker (λ v. stands_in xs v ≡ true) (λ v. stands_in (x ∷ xs) v ≡ true) (λ v h. rw h (or_true (nat_eq x v))) xs (stands_self xs),
)

count_case : (b : Bool) (n : ℕ) (xs : List ℕ) (v : ℕ) → n ≡ bit b + count_of xs v → (b || stands_in xs v) ≡ true
    → (stands_in xs v ≡ true → 0 < count_of xs v) → 0 < n
count_case true n xs v e g more = omega (arith, e)
count_case false n xs v e g more = let above = more g in omega (arith, e, above)

pub count_stands : (xs : List ℕ) (v : ℕ) → stands_in xs v ≡ true → 0 < count_of xs v
count_stands [] v h = absurd (let bad : false ≡ true = h in cc)
count_stands (x ∷ xs) v h = count_case (nat_eq x v) (count_of (x ∷ xs) v) xs v (count_cons x xs v) h (count_stands xs v)

pub stands_push : (xs : List ℕ) (w v : ℕ) → stands_in (xs ++ w ∷ []) v ≡ (stands_in xs v || nat_eq w v)
stands_push xs w v = list_any-append (λ id. nat_eq id v) xs (w ∷ []) ∙ ap (λ b. stands_in xs v || b) (or-false (nat_eq w v))

-- the vertices of a side stand in it
pub vertices_from : (P : ℕ → Type 0) (side done : List ℕ) → Every P done → Every P side → Every P (fold with_vertex done side)
vertices_from P [] done h g = h
vertices_from P (x ∷ side) done h g =
    elim (stands_in done x) as (λ b. Every P (fold with_vertex (cond b done (done ++ x ∷ [])) side))
    [ true ↦ vertices_from P side done h g.1 | false ↦ vertices_from P side (done ++ x ∷ []) (every_append P done (x ∷ []) h (g.0, tt)) g.1 ]

pub vertices_stand : (side : List ℕ) → Every (λ v. stands_in side v ≡ true) (vertices side)
unfolding vertices
vertices_stand side = vertices_from (λ v. stands_in side v ≡ true) side [] tt (stands_self side)

-- each vertex stands once among the vertices
once_yes : (done : List ℕ) (x v : ℕ) (rest : Bool) → stands_in done x ≡ true → (stands_in done v || rest) ≡ (stands_in done v || (nat_eq x v || rest))
once_yes done x v rest h = yes_case (nat_eq x v) refl
  where
    yes_case : (b : Bool) → nat_eq x v ≡ b → (stands_in done v || rest) ≡ (stands_in done v || (b || rest))
    yes_case false e = refl
    yes_case true e = let there : stands_in done v ≡ true = rw (eqb_same x v e) at h in rw there refl

once_no : (done : List ℕ) (x v : ℕ) → stands_in done x ≡ false → count_of done v ≡ bit (stands_in done v)
    → count_of (done ++ x ∷ []) v ≡ bit (stands_in (done ++ x ∷ []) v)
once_no done x v h e = rw (stands_push done x v, count_push done x v, e) (no_case (nat_eq x v) refl)
  where
    no_case : (b : Bool) → nat_eq x v ≡ b → bit (stands_in done v) + bit b ≡ bit (stands_in done v || b)
    no_case false e = elim (stands_in done v) as (λ c. bit c + 0 ≡ bit (c || false)) [ true ↦ omega arith | false ↦ omega arith ]
    no_case true e = let absent : stands_in done v ≡ false = rw (eqb_same x v e) at h in rw absent (omega arith)

or_assoc : (a b c : Bool) → ((a || b) || c) ≡ (a || (b || c))
or_assoc true b c = refl
or_assoc false b c = refl

once_case : (b : Bool) (x : ℕ) (side done : List ℕ) (v : ℕ) → stands_in done x ≡ b → count_of done v ≡ bit (stands_in done v)
    → ((next : List ℕ) → count_of next v ≡ bit (stands_in next v) → count_of (fold with_vertex next side) v ≡ bit (stands_in next v || stands_in side v))
    → count_of (fold with_vertex (cond b done (done ++ x ∷ [])) side) v ≡ bit (stands_in done v || (nat_eq x v || stands_in side v))
once_case true x side done v h e go = go done e ∙ ap bit (once_yes done x v (stands_in side v) h)
once_case false x side done v h e go =
    go (done ++ x ∷ []) (once_no done x v h e)
    ∙ ap bit (ap (λ b. b || stands_in side v) (stands_push done x v) ∙ or_assoc (stands_in done v) (nat_eq x v) (stands_in side v))

once_from : (side done : List ℕ) (v : ℕ) → count_of done v ≡ bit (stands_in done v)
    → count_of (fold with_vertex done side) v ≡ bit (stands_in done v || stands_in side v)
once_from [] done v e = rw (or-false (stands_in done v)) e
once_from (x ∷ side) done v e = once_case (stands_in done x) x side done v refl e (λ next. once_from side next v)

pub vertices_once : (side : List ℕ) (v : ℕ) → count_of (vertices side) v ≡ bit (stands_in side v)
unfolding vertices
vertices_once side v = once_from side [] v refl

-- each of these stands once in the list
abbrev pub Covers : List ℕ → List ℕ → Type 0
Covers vs side = Every (λ v. count_of vs v ≡ 1) side

pub vertices_cover : (side : List ℕ) → Covers (vertices side) side
vertices_cover side =
    every_weaker (λ v. stands_in side v ≡ true) (λ v. count_of (vertices side) v ≡ 1) (λ v h. vertices_once side v ∙ ap bit h) side (stands_self side)
