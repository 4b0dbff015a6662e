-- The last of a list that is taken off, one that is put at its end, and a front.
use Rattle.std.proofs.Common.{◌≡◌, ℕ, ◌+◌, ◌∙◌, List, [], ◌∷◌, ◌++◌, All, length, take, sum_by, ap, subst, refl, arith, length-append}
use Rattle.std.proofs.lemmas.List.Sums.{sum_by_push}
use Rattle.std.proofs.Math.Seq.{take-append_seam}
use Rattle.std.proofs.lemmas.List.{get_or_append_left, get_or_push}

pub all_front : {X : Type 0} (P : X → Type 0) (xs : List X) (x : X) → All P (xs ++ x ∷ []) → All P xs
all_front P xs x all = λ k d lt.
    subst P (get_or_append_left xs (x ∷ []) d k lt) (all k d (omega (arith, lt, length-append xs (x ∷ []))))

pub all_last : {X : Type 0} (P : X → Type 0) (xs : List X) (x : X) → All P (xs ++ x ∷ []) → P x
all_last P xs x all =
    subst P (get_or_push xs x x (length xs) refl) (all (length xs) x (omega (arith, length-append xs (x ∷ []))))

pub sum_more : {X : Type 0} (f : X → ℕ) (new old : List X) (x : X) → new ≡ old ++ x ∷ [] → sum_by f new ≡ sum_by f old + f x
sum_more f new old x e = ap (sum_by f) e ∙ sum_by_push f old x

pub take_front : {X : Type 0} (n : ℕ) (xs ys : List X) → length xs ≡ n → take n (xs ++ ys) ≡ xs
take_front n xs ys e = subst (λ (k : ℕ). take k (xs ++ ys) ≡ xs) e (take-append_seam xs ys)
