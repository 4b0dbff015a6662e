-- What is true of all items from a place on stays so where an item before it changes, and is true of all once those before it
-- are replaced.
use Rattle.std.proofs.Common.{◌≡◌, ◌≢◌, ℕ, ◌+◌, ◌-◌, ◌<◌, ◌≤◌, ◌++◌, List, length, get_or, set, drop, max, replicate, ap, sym, ◌∙◌, subst, arith, inl, inr}
use Rattle.std.proofs.Math.ListN.{get_or-append}
use Rattle.std.proofs.lemmas.Bool.{cases_lt}
use Rattle.std.proofs.lemmas.List.{get_or-append_right, get_or-replicate, get_or-drop, get_or-set_other, length-set, length-replicate, length-append, length-drop}

abbrev pub AllFrom : {X : Type 0} → (X → Type 0) → List X → ℕ → Type 0
AllFrom {X} P xs n = (k : ℕ) (d : X) → n ≤ k → k < length xs → P (get_or xs k d)

pub from_set : {X : Type 0} (P : X → Type 0) (xs : List X) (n v : ℕ) (x : X) → AllFrom P xs n → AllFrom P (set xs v x) (max n (v + 1))
from_set P xs n v x rest k d from within =
    let other : k ≢ v = λ e. omega arith in
    let lt : k < length xs = omega (arith, length-set xs v x) in
    subst P (sym (get_or-set_other xs v k x d other)) (rest k d (omega arith) lt)

pub fill_long : {X : Type 0} (xs new : List X) (n : ℕ) (x : X) → new ≡ replicate n x ++ drop n xs → n ≤ length xs → length new ≡ length xs
fill_long {X} xs new n x filled fits = omega (arith, ap length filled, length-append (replicate n x) (drop n xs), length-drop n xs, length-replicate n x)

pub from_fill : {X : Type 0} (P : X → Type 0) (xs new : List X) (n : ℕ) (x : X) → new ≡ replicate n x ++ drop n xs → n ≤ length xs → P x → AllFrom P xs n → AllFrom P new 0
from_fill {X} P xs new n x filled fits holds rest k d from within =
    let long = length-replicate n x in
    let same : length new ≡ length xs = fill_long xs new n x filled fits in
    let at : get_or new k d ≡ get_or (replicate n x ++ drop n xs) k d = ap (λ (l : List X). get_or l k d) filled in
    elim (cases_lt k n) [
      | inl lt ↦ subst P (sym (at ∙ (get_or-append (replicate n x) (drop n xs) d k (omega arith) ∙ get_or-replicate n k x d lt))) holds
      | inr ge ↦
          let e : n + (k - n) ≡ k = omega arith in
          subst P (sym (at ∙ (get_or-append_right (replicate n x) (drop n xs) n k d long ge ∙ (get_or-drop n xs (k - n) d ∙ ap (λ i. get_or xs i d) e))))
          (rest k d ge (omega arith))
    ]
