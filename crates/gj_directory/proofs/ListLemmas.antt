-- Parts of two lists.
use Rattle.std.proofs.Common.{◌≡◌, ℕ, zero, suc, ◌+◌, ◌-◌, ◌≤◌, ◌∙◌, List, [], ◌∷◌, ◌++◌, length, min, take, drop, refl, arith, sym, ap}
use Rattle.std.proofs.lemmas.List.{length-drop, take_min, drop_min, take-take, take-append-drop, drop-take, drop-drop}

take-over : {A : Type 0} (n : ℕ) (xs ys : List A) → take n (xs ++ ys) ≡ take n xs ++ take (n - length xs) ys
take-over zero xs ys = let e : zero - length xs ≡ zero = omega arith in rw e refl
take-over {A = A} (suc n) [] ys = let e : suc n - length {A = A} [] ≡ suc n = omega arith in rw e refl
take-over {A = A} (suc n) (x ∷ xs) ys =
    let e : n - length xs ≡ suc n - length (x ∷ xs) = omega arith in
    ap (λ (l : List A). x ∷ l) (take-over n xs ys ∙ ap (λ (k : ℕ). take n xs ++ take k ys) e)

drop-over : {A : Type 0} (n : ℕ) (xs ys : List A) → drop n (xs ++ ys) ≡ drop n xs ++ drop (n - length xs) ys
drop-over zero xs ys = let e : zero - length xs ≡ zero = omega arith in rw e refl
drop-over {A = A} (suc n) [] ys = let e : suc n - length {A = A} [] ≡ suc n = omega arith in rw e refl
drop-over {A = A} (suc n) (x ∷ xs) ys =
    let e : n - length xs ≡ suc n - length (x ∷ xs) = omega arith in
    drop-over n xs ys ∙ ap (λ (k : ℕ). drop n xs ++ drop k ys) e

-- a part of two lists is a part of each
pub between_both : {A : Type 0} (xs ys : List A) (from to : ℕ) → from ≤ to
    → take (min to (length xs) - min from (length xs)) (drop (min from (length xs)) xs) ++ take ((to - length xs) - (from - length xs)) (drop (from - length xs) ys)
    ≡ take (to - from) (drop from (xs ++ ys))
between_both {A = A} xs ys from to order =
    let left = length-drop from xs in
    let e : min (to - from) (length (drop from xs)) ≡ min to (length xs) - min from (length xs) = omega arith in
    let f : (to - from) - length (drop from xs) ≡ (to - length xs) - (from - length xs) = omega arith in
    let first : take (min to (length xs) - min from (length xs)) (drop (min from (length xs)) xs) ≡ take (to - from) (drop from xs) =
    ap (take (min to (length xs) - min from (length xs))) (drop_min from xs)
    ∙ (ap (λ (k : ℕ). take k (drop from xs)) (sym e) ∙ take_min (to - from) (drop from xs)) in
    let second = ap (λ (k : ℕ). take k (drop (from - length xs) ys)) (sym f) in
    ap (λ (l : List A). l ++ take ((to - length xs) - (from - length xs)) (drop (from - length xs) ys)) first
    ∙ (ap (λ (l : List A). take (to - from) (drop from xs) ++ l) second
    ∙ (sym (take-over (to - from) (drop from xs) (drop (from - length xs) ys)) ∙ ap (take (to - from)) (sym (drop-over from xs ys))))

-- a list is its beginning up to a place, and then what lies between that and a later one
pub take_between : {A : Type 0} (xs : List A) (from to : ℕ) → from ≤ to → take to xs ≡ take from xs ++ take (to - from) (drop from xs)
take_between {A = A} xs from to order =
    let whole : to ≡ from + (to - from) = omega arith in
    sym (take-append-drop from (take to xs))
    ∙ (ap (λ (l : List A). l ++ drop from (take to xs)) (take-take from to xs order)
    ∙ ap (λ (l : List A). take from xs ++ l) (ap (λ (n : ℕ). drop from (take n xs)) whole ∙ drop-take from (to - from) xs))

-- what lies behind a place, up to a later one and then behind that
pub drop_between : {A : Type 0} (xs : List A) (from to : ℕ) → from ≤ to → drop from xs ≡ take (to - from) (drop from xs) ++ drop to xs
drop_between {A = A} xs from to order =
    let whole : from + (to - from) ≡ to = omega arith in
    sym (take-append-drop (to - from) (drop from xs))
    ∙ ap (λ (l : List A). take (to - from) (drop from xs) ++ l) (drop-drop (to - from) from xs ∙ ap (λ (n : ℕ). drop n xs) whole)

-- the same, of what is left up to a place in the whole
pub front_rest : {A : Type 0} (xs : List A) (full count : ℕ) → count ≤ full → take (full - count) (drop count xs) ≡ drop count (take full xs)
front_rest xs full count fits =
    let e : full ≡ count + (full - count) = omega arith in
    sym (ap (λ (n : ℕ). drop count (take n xs)) e ∙ drop-take count (full - count) xs)

pub back_rest : {A : Type 0} (xs : List A) (full count : ℕ) → count ≤ full → drop (full - count) (drop count xs) ≡ drop full xs
back_rest xs full count fits =
    let e : count + (full - count) ≡ full = omega arith in
    drop-drop (full - count) count xs ∙ ap (λ (n : ℕ). drop n xs) e

pub front_split : {A : Type 0} (xs : List A) (full count : ℕ) → count ≤ full → take full xs ≡ take count xs ++ drop count (take full xs)
front_split {A = A} xs full count fits =
    sym (ap (λ (l : List A). l ++ drop count (take full xs)) (sym (take-take count full xs fits)) ∙ take-append-drop count (take full xs))
