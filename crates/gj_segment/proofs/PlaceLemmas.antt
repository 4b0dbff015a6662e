-- The places at which a vertex stands.
use Rattle.std.proofs.Common.{◌≡◌, ◌≢◌, ℕ, zero, suc, ◌+◌, ◌<◌, eqb, List, [], ◌∷◌, ◌++◌, length, get_or, map, true, false, arith, ap, refl, sym, ◌∙◌, inl, inr, append_assoc, length-append}
use Rattle.std.proofs.lemmas.Bool.{eq-eqb, ne_eqb, cases_eq}
use Rattle.std.proofs.lemmas.List.{get_or_at}
use Rattle.gj_base.specs.declared.side.Side.{Side}
use Rattle.gj_base.specs.declared.item.Item.{Item}
use Rattle.gj_base.specs.Ends.{vertex_on}
use Rattle.gj_base.specs.Numbered.{dated_ends, dated_across}
use Rattle.gj_segment.specs.Halves.{places_from}

places_yes : (k n : ℕ) (near : List ℕ) (v : ℕ) → n ≡ v → places_from k (n ∷ near) v ≡ k ∷ places_from (k + 1) near v
unfolding places_from
places_yes k n near v e = let t : eqb n v ≡ true = eq-eqb n v e in rw t refl

places_no : (k n : ℕ) (near : List ℕ) (v : ℕ) → n ≢ v → places_from k (n ∷ near) v ≡ places_from (k + 1) near v
unfolding places_from
places_no k n near v e = let t : eqb n v ≡ false = ne_eqb n v e in rw t refl

pub places_none : (k v : ℕ) → places_from k [] v ≡ []
unfolding places_from
places_none k v = refl

-- one more vertex
pub places-same : (k : ℕ) (near : List ℕ) (v : ℕ) → places_from k (near ++ v ∷ []) v ≡ places_from k near v ++ (k + length near) ∷ []
places-same k [] v =
    let e : k + length {A = ℕ} [] ≡ k = omega arith in
    rw (places_yes k v [] v refl, places_none (k + 1) v, places_none k v, e) refl
places-same k (n ∷ near) v =
    let e : k + 1 + length near ≡ k + length (n ∷ near) = omega arith in
    let rest = places-same (k + 1) near v in
    elim (cases_eq n v) [
      | inl is ↦ rw (places_yes k n (near ++ v ∷ []) v is, places_yes k n near v is, rest, e) refl
      | inr ne ↦ rw (places_no k n (near ++ v ∷ []) v ne, places_no k n near v ne, rest, e) refl
    ]

pub places-other : (k : ℕ) (near : List ℕ) (v n : ℕ) → n ≢ v → places_from k (near ++ n ∷ []) v ≡ places_from k near v
places-other k [] v n ne = rw (places_no k n [] v ne, places_none (k + 1) v, places_none k v) refl
places-other k (m ∷ near) v n ne =
    let rest = places-other (k + 1) near v n ne in
    elim (cases_eq m v) [
      | inl is ↦ rw (places_yes k m (near ++ n ∷ []) v is, places_yes k m near v is, rest) refl
      | inr ne ↦ rw (places_no k m (near ++ n ∷ []) v ne, places_no k m near v ne, rest) refl
    ]

below_step : (k m : ℕ) (ps : List ℕ) (i : ℕ) → ((j : ℕ) → j < length ps → get_or ps j 0 < k + 1 + m) → i < length (k ∷ ps) → get_or (k ∷ ps) i 0 < k + suc m
below_step k m ps zero rest h = omega arith
below_step k m ps (suc i) rest h = omega (arith, rest i (omega arith))

-- each place is one of the list
pub places-below : (k : ℕ) (near : List ℕ) (v i : ℕ) → i < length (places_from k near v) → get_or (places_from k near v) i 0 < k + length near
places-below k [] v i h = let h' = rw (places_none k v) at h in absurd (omega arith)
places-below k (n ∷ near) v i h = elim (cases_eq n v) [
  | inl is ↦
      let h' = rw (places_yes k n near v is) at h in
      rw (places_yes k n near v is) (below_step k (length near) (places_from (k + 1) near v) i (λ j lt. places-below (k + 1) near v j lt) h')
  | inr ne ↦
      let h' = rw (places_no k n near v ne) at h in
      rw (places_no k n near v ne) (omega (arith, places-below (k + 1) near v i h'))
]

dated_yes : (x : Item) (xs : List Item) (side : Side) (v : ℕ) → vertex_on side x ≡ v → dated_ends (x ∷ xs) side v ≡ dated_across side x ∷ dated_ends xs side v
unfolding dated_ends
dated_yes x xs side v e = let t : eqb (vertex_on side x) v ≡ true = eq-eqb (vertex_on side x) v e in rw t refl

dated_no : (x : Item) (xs : List Item) (side : Side) (v : ℕ) → vertex_on side x ≢ v → dated_ends (x ∷ xs) side v ≡ dated_ends xs side v
unfolding dated_ends
dated_no x xs side v e = let t : eqb (vertex_on side x) v ≡ false = ne_eqb (vertex_on side x) v e in rw t refl

dated_none : (side : Side) (v : ℕ) → dated_ends [] side v ≡ []
unfolding dated_ends
dated_none side v = refl

-- the ends of a vertex are those of the interactions at its places
ends_at : (pre xs : List Item) (side : Side) (v k : ℕ) (d : Item) → length pre ≡ k
    → map (λ (p : ℕ). dated_across side (get_or (pre ++ xs) p d)) (places_from k (map (vertex_on side) xs) v) ≡ dated_ends xs side v
ends_at pre [] side v k d e = rw (places_none k v, dated_none side v) refl
ends_at pre (x ∷ xs) side v k d e =
    let more : (pre ++ x ∷ []) ++ xs ≡ pre ++ x ∷ xs = append_assoc pre (x ∷ []) xs in
    let long : length (pre ++ x ∷ []) ≡ k + 1 = omega (arith, length-append pre (x ∷ []), e) in
    let rest = ends_at (pre ++ x ∷ []) xs side v (k + 1) d long in
    let rest' : map (λ (p : ℕ). dated_across side (get_or (pre ++ x ∷ xs) p d)) (places_from (k + 1) (map (vertex_on side) xs) v) ≡ dated_ends xs side v =
    ap (λ (l : List Item). map (λ (p : ℕ). dated_across side (get_or l p d)) (places_from (k + 1) (map (vertex_on side) xs) v)) (sym more) ∙ rest
    in
    let here : get_or (pre ++ x ∷ xs) k d ≡ x = get_or_at pre x xs d k e in
    elim (cases_eq (vertex_on side x) v) [
      | inl is ↦ rw (places_yes k (vertex_on side x) (map (vertex_on side) xs) v is, dated_yes x xs side v is, here, rest') refl
      | inr ne ↦ rw (places_no k (vertex_on side x) (map (vertex_on side) xs) v ne, dated_no x xs side v ne) rest'
    ]

pub ends-places : (xs : List Item) (side : Side) (v : ℕ) (d : Item)
    → map (λ (p : ℕ). dated_across side (get_or xs p d)) (places_from 0 (map (vertex_on side) xs) v) ≡ dated_ends xs side v
ends-places xs side v d = ends_at [] xs side v 0 d refl
