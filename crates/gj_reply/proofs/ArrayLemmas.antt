-- An array's text grows by one member.
use Rattle.std.proofs.Common.{◌≡◌, ℕ, ◌+◌, ◌<◌, List, [], ◌∷◌, ◌++◌, length, map, take, get_or, refl, ap, sym, ◌∙◌, arith, append_assoc, append-nil, codes}
use Rattle.std.proofs.lemmas.List.{take_more, map-append, length-take-le, length-map, get_or_default}
use Rattle.std.proofs.lemmas.Grind.{flat_map-append}
use Rattle.gj_reply.specs.Arrays.{with_commas, joined, comma_at}

with_commas-push : (members : List (List ℕ)) (x : List ℕ) → with_commas (members ++ x ∷ []) ≡ with_commas members ++ (codes "," ++ x)
with_commas-push members x =
    flat_map-append (λ member. codes "," ++ member) members (x ∷ [])
    ∙ ap (λ t. with_commas members ++ t) (append-nil (codes "," ++ x))

joined-push : (members : List (List ℕ)) (x : List ℕ) → joined (members ++ x ∷ []) ≡ joined members ++ (comma_at (length members) ++ x)
joined-push [] x = append-nil x
joined-push (first ∷ others) x =
    ap (λ t. first ++ t) (with_commas-push others x) ∙ sym (append_assoc first (with_commas others) (codes "," ++ x))

joined-take : {A : Type 0} (f : A → List ℕ) (xs : List A) (i : ℕ) (x : A) → i < length xs → x ≡ get_or xs i x
    → joined (map f (take (i + 1) xs)) ≡ joined (map f (take i xs)) ++ (comma_at i ++ f x)
joined-take f xs i x h e =
    let more : take (i + 1) xs ≡ take i xs ++ x ∷ [] = take_more xs i x h ∙ ap (λ u. take i xs ++ u ∷ []) (sym e) in
    let count : length (map f (take i xs)) ≡ i = length-map (take i xs) f ∙ length-take-le i xs (omega arith) in
    rw (more, map-append f (take i xs) (x ∷ [])) (joined-push (map f (take i xs)) (f x) ∙ rw count refl)

-- what ends with the members so far, and then has a comma and one more
pub grown : {A : Type 0} (f : A → List ℕ) (xs : List A) (i : ℕ) (x : A) (front t0 t1 t2 : List ℕ) → i < length xs → x ≡ get_or xs i x
    → t0 ≡ front ++ joined (map f (take i xs)) → t1 ≡ t0 ++ comma_at i → t2 ≡ t1 ++ f x
    → t2 ≡ front ++ joined (map f (take (i + 1) xs))
grown f xs i x front t0 t1 t2 h e a b c =
    c ∙ ap (λ t. t ++ f x) (b ∙ ap (λ t. t ++ comma_at i) a)
    ∙ rw (joined-take f xs i x h e) (simp append_assoc)

-- the same, where the one more is read at its place
pub grown_at : {A : Type 0} (f : A → List ℕ) (xs : List A) (i : ℕ) (d : A) (front t0 t1 t2 : List ℕ) → i < length xs
    → t0 ≡ front ++ joined (map f (take i xs)) → t1 ≡ t0 ++ comma_at i → t2 ≡ t1 ++ f (get_or xs i d)
    → t2 ≡ front ++ joined (map f (take (i + 1) xs))
grown_at f xs i d front t0 t1 t2 h =
    grown f xs i (get_or xs i d) front t0 t1 t2 h (get_or_default xs i d (get_or xs i d) h)
