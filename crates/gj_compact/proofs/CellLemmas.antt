-- Ends in columns: what is done to each column is done to the ends.
use Rattle.std.proofs.Common.{◌≡◌, ℕ, zero, suc, ◌<◌, ◌∙◌, List, [], ◌∷◌, ◌++◌, ◌-◌, ◌≤◌, length, replicate, take, drop, set, get_or, slice_get, Some, refl, arith, sym, ap}
use Rattle.std.proofs.lemmas.List.{length-take, take-take, take-append-le}
use Rattle.gj_base.specs.declared.kind.Kind.{Kind}
use Rattle.gj_compact.specs.Cells.{joined}

no_kinds : (vs ats : List ℕ) → joined vs [] ats ≡ []
unfolding joined
no_kinds [] ats = refl
no_kinds (v ∷ vs) ats = refl

no_moments : (vs : List ℕ) (ks : List Kind) → joined vs ks [] ≡ []
unfolding joined
no_moments [] ks = refl
no_moments (v ∷ vs) [] = refl
no_moments (v ∷ vs) (k ∷ ks) = refl

pub length-joined : (vs : List ℕ) (ks : List Kind) (ats : List ℕ) → length ks ≡ length vs → length ats ≡ length vs → length (joined vs ks ats) ≡ length vs
unfolding joined
length-joined [] ks ats e f = refl
length-joined (v ∷ vs) [] ats e f = absurd (omega arith)
length-joined (v ∷ vs) (k ∷ ks) [] e f = absurd (omega arith)
length-joined (v ∷ vs) (k ∷ ks) (a ∷ ats) e f = let rest = length-joined vs ks ats (omega arith) (omega arith) in omega (arith, rest)

nothing-joined : (ks : List Kind) (ats : List ℕ) → joined [] ks ats ≡ []
unfolding joined
nothing-joined ks ats = refl

pub none-joined : (vs : List ℕ) (ks : List Kind) (ats : List ℕ) → vs ≡ [] → joined vs ks ats ≡ []
none-joined vs ks ats none = ap (λ (l : List ℕ). joined l ks ats) none ∙ nothing-joined ks ats

pub set-joined : (vs : List ℕ) (ks : List Kind) (ats : List ℕ) (i v : ℕ) (k : Kind) (a : ℕ)
    → joined (set vs i v) (set ks i k) (set ats i a) ≡ set (joined vs ks ats) i (record { vertex = v; kind = k; at = a })
unfolding joined
set-joined [] ks ats i v k a = refl
set-joined (w ∷ vs) [] ats zero v k a = refl
set-joined (w ∷ vs) [] ats (suc i) v k a = refl
set-joined (w ∷ vs) (l ∷ ks) [] zero v k a = refl
set-joined (w ∷ vs) (l ∷ ks) [] (suc i) v k a = refl
set-joined (w ∷ vs) (l ∷ ks) (b ∷ ats) zero v k a = refl
set-joined (w ∷ vs) (l ∷ ks) (b ∷ ats) (suc i) v k a = let rest = set-joined vs ks ats i v k a in rw rest refl

pub take-joined : (n : ℕ) (vs : List ℕ) (ks : List Kind) (ats : List ℕ) → take n (joined vs ks ats) ≡ joined (take n vs) (take n ks) (take n ats)
unfolding joined
take-joined zero vs ks ats = refl
take-joined (suc n) [] ks ats = refl
take-joined (suc n) (v ∷ vs) [] ats = refl
take-joined (suc n) (v ∷ vs) (k ∷ ks) [] = refl
take-joined (suc n) (v ∷ vs) (k ∷ ks) (a ∷ ats) = let rest = take-joined n vs ks ats in rw rest refl

pub drop-joined : (n : ℕ) (vs : List ℕ) (ks : List Kind) (ats : List ℕ) → drop n (joined vs ks ats) ≡ joined (drop n vs) (drop n ks) (drop n ats)
unfolding joined
drop-joined zero vs ks ats = refl
drop-joined (suc n) [] ks ats = refl
drop-joined (suc n) (v ∷ vs) [] ats = sym (no_kinds (drop n vs) (drop (suc n) ats))
drop-joined (suc n) (v ∷ vs) (k ∷ ks) [] = sym (no_moments (drop n vs) (drop n ks))
drop-joined (suc n) (v ∷ vs) (k ∷ ks) (a ∷ ats) = drop-joined n vs ks ats

pub get-joined : (vs : List ℕ) (ks : List Kind) (ats : List ℕ) (i v : ℕ) (k : Kind) (a : ℕ) → i < length (joined vs ks ats)
    → v ≡ get_or vs i v → k ≡ get_or ks i k → a ≡ get_or ats i a → slice_get (joined vs ks ats) i ≡ Some (record { vertex = v; kind = k; at = a })
unfolding joined
get-joined [] ks ats i v k a h ev ek ea = absurd (omega arith)
get-joined (w ∷ vs) [] ats i v k a h ev ek ea = absurd (omega arith)
get-joined (w ∷ vs) (l ∷ ks) [] i v k a h ev ek ea = absurd (omega arith)
get-joined (w ∷ vs) (l ∷ ks) (b ∷ ats) zero v k a h ev ek ea = rw (ev, ek, ea) refl
get-joined (w ∷ vs) (l ∷ ks) (b ∷ ats) (suc i) v k a h ev ek ea = get-joined vs ks ats i v k a (omega arith) ev ek ea

-- a run of each column
pub run-joined : (vs vs' : List ℕ) (ks ks' : List Kind) (ats ats' : List ℕ) (to from len : ℕ)
    → take len (drop to vs') ≡ take len (drop from vs) → take len (drop to ks') ≡ take len (drop from ks) → take len (drop to ats') ≡ take len (drop from ats)
    → take len (drop to (joined vs' ks' ats')) ≡ take len (drop from (joined vs ks ats))
run-joined vs vs' ks ks' ats ats' to from len ev ek ea =
    ap (take len) (drop-joined to vs' ks' ats') ∙ (take-joined len (drop to vs') (drop to ks') (drop to ats')
    ∙ (rw (ev, ek, ea) refl ∙ sym (ap (take len) (drop-joined from vs ks ats) ∙ take-joined len (drop from vs) (drop from ks) (drop from ats))))

pub front-joined : (vs vs' : List ℕ) (ks ks' : List Kind) (ats ats' : List ℕ) (to : ℕ)
    → take to vs' ≡ take to vs → take to ks' ≡ take to ks → take to ats' ≡ take to ats → take to (joined vs' ks' ats') ≡ take to (joined vs ks ats)
front-joined vs vs' ks ks' ats ats' to ev ek ea =
    take-joined to vs' ks' ats' ∙ (rw (ev, ek, ea) refl ∙ sym (take-joined to vs ks ats))

pub back-joined : (vs vs' : List ℕ) (ks ks' : List Kind) (ats ats' : List ℕ) (from : ℕ)
    → drop from vs' ≡ drop from vs → drop from ks' ≡ drop from ks → drop from ats' ≡ drop from ats → drop from (joined vs' ks' ats') ≡ drop from (joined vs ks ats)
back-joined vs vs' ks ks' ats ats' from ev ek ea =
    drop-joined from vs' ks' ats' ∙ (rw (ev, ek, ea) refl ∙ sym (drop-joined from vs ks ats))

-- the front of a column that was made longer or shorter
pub front_fits : {X : Type 0} (xs ys : List X) (x : X) (len n : ℕ) → ys ≡ take len xs ++ replicate (len - length xs) x → n ≤ len → n ≤ length xs → take n ys ≡ take n xs
front_fits {X = X} xs ys x len n are less inside =
    let front : n ≤ length (take len xs) = omega (arith, length-take len xs) in
    ap (take n) are ∙ (take-append-le n (take len xs) (replicate (len - length xs) x) front ∙ take-take n len xs less)
