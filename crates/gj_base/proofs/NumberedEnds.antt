-- The ends of a vertex by identifiers are those by numbers, named.
use Rattle.std.proofs.Common.{◌≡◌, ℕ, zero, suc, ◌<◌, ◌∙◌, Bool, List, [], ◌∷◌, length, map, filter, get_or, Option, slice_get, option_map, Some, None, true, false, refl, arith, sym, ap, eqb, inl, inr, ◌&&◌}
use Rattle.std.proofs.lemmas.Bool.{eq-eqb, ne_eqb, cases_eq, cases_Bool}
use Rattle.std.proofs.lemmas.List.{length-map, get_or-map}
use Rattle.std.proofs.lemmas.Option.{slice_get-map, get_or_from_slice_get}
use Rattle.gj_base.specs.declared.side.Side.{Side}
use Rattle.gj_base.specs.declared.side.Side.TheVariants.{User, Post}
use Rattle.gj_base.specs.declared.item.Item.{Item}
use Rattle.gj_base.specs.declared.mask.Mask.{Mask}
use Rattle.gj_base.specs.declared.kind.Kind.{Kind}
use Rattle.gj_base.specs.declared.kind.Kind.TheVariants.{Click}
use Rattle.gj_base.specs.Ends.{ends, is_eligible, end_across, vertex_on, vertex_across, other_side}
use Rattle.gj_base.specs.Kinds.{lets}
use Rattle.gj_base.specs.Firsts.{number_in, firsts, place_of}
use Rattle.gj_base.specs.Numbered.{numbered, numbered_by, named_by, vertices_of}
use Rattle.gj_base.proofs.FirstLemmas.{IsIn, place_of-Some, in-firsts, numbered-in, found-in, number_in-at, distinct-firsts}

map_both : {X Y Z : Type 0} (f : Y → Z) (g : X → Y) (xs : List X) → map f (map g xs) ≡ map (λ (x : X). f (g x)) xs
map_both f g [] = refl
map_both f g (x ∷ xs) = let rest = map_both f g xs in rw rest refl

-- a choice and a reading that agree member by member
same_read : {X Y Z : Type 0} (f : X → Z) (p : X → Bool) (g : Y → Z) (q : Y → Bool) (h : X → Y) (xs : List X)
    → ((i : ℕ) (d : X) → i < length xs → (p (get_or xs i d) ≡ q (h (get_or xs i d))) × (f (get_or xs i d) ≡ g (h (get_or xs i d))))
    → map f (filter p xs) ≡ map g (filter q (map h xs))
same_read f p g q h [] each = refl
same_read f p g q h (x ∷ xs) each =
    let first = each zero x (omega arith) in
    let rest = same_read f p g q h xs (λ i d lt. each (suc i) d (omega arith)) in
    elim (cases_Bool (q (h x))) [
      | inl in_it ↦ let e : p x ≡ true = first.0 ∙ in_it in let r = first.1 in rw (e, in_it, r, rest) refl
      | inr out ↦ let e : p x ≡ false = first.0 ∙ out in rw (e, out) rest
    ]

head_or_later : {Z : Type 0} (P : Z → Type 0) (z : Z) (zs : List Z) → P z → ((j : ℕ) (e : Z) → j < length zs → P (get_or zs j e)) → (i : ℕ) (d : Z) → i < length (z ∷ zs) → P (get_or (z ∷ zs) i d)
head_or_later P z zs first later zero d h = first
head_or_later P z zs first later (suc i) d h = later i d (omega arith)

each_read : {Y Z : Type 0} (P : Z → Type 0) (g : Y → Z) (q : Y → Bool) (ys : List Y) → ((i : ℕ) (d : Y) → i < length ys → P (g (get_or ys i d)))
    → (i : ℕ) (d : Z) → i < length (map g (filter q ys)) → P (get_or (map g (filter q ys)) i d)
each_read P g q [] each i d h = absurd (omega arith)
each_read P g q (y ∷ ys) each i d h = elim (cases_Bool (q y)) [
  | inl in_it ↦
      let h' = rw in_it at h in
      rw in_it (head_or_later P (g y) (map g (filter q ys)) (each zero y (omega arith)) (λ j e lt. each_read P g q ys (λ k c below. each (suc k) c (omega arith)) j e lt) i d h')
  | inr out ↦
      let h' = rw out at h in
      rw out (each_read P g q ys (λ k c below. each (suc k) c (omega arith)) i d h')
]

-- the identifiers of an end by numbers
abbrev pub named_end : List Item → Side → ℕ × Kind → ℕ × Kind
named_end items side e = (get_or (vertices_of items (other_side side)) e.0 0, e.1)

-- each vertex of a side is numbered
on_side : (items : List Item) (side : Side) (i : ℕ) (d : Item) → i < length items
    → (number_in (vertices_of items side) (vertex_on side (get_or items i d)) < length (vertices_of items side))
    × (get_or (vertices_of items side) (number_in (vertices_of items side) (vertex_on side (get_or items i d))) 0 ≡ vertex_on side (get_or items i d))
on_side items side i d h =
    let ids = map (vertex_on side) items in
    let size : length ids ≡ length items = length-map items (vertex_on side) in
    let is : get_or ids i 0 ≡ vertex_on side (get_or items i d) = get_or-map (vertex_on side) items i d 0 h in
    let held : IsIn (firsts ids) (get_or ids i 0) = in-firsts ids i (omega (arith, h, size)) in
    rw is at (numbered-in (firsts ids) (get_or ids i 0) (distinct-firsts ids) held)

near_is : (items : List Item) (side : Side) (x : Item) → vertex_on side (numbered_by (vertices_of items User) (vertices_of items Post) x) ≡ number_in (vertices_of items side) (vertex_on side x)
near_is items User x = refl
near_is items Post x = refl

-- each vertex of a side has its number below theirs
pub numbered-below : (items : List Item) (side : Side) (i : ℕ) (d : Item) → i < length items
    → vertex_on side (get_or (numbered items) i d) < length (vertices_of items side)
unfolding numbered
numbered-below items side i d h =
    let x0 : Item = record { user = 0; post = 0; kind = Click; at = 0 } in
    let is = get_or-map (numbered_by (vertices_of items User) (vertices_of items Post)) items i x0 d h in
    rw is (rw (near_is items side (get_or items i x0)) (on_side items side i x0 h).0)

map_back : {X : Type 0} (f : X → X) (xs : List X) → ((i : ℕ) (d : X) → i < length xs → f (get_or xs i d) ≡ get_or xs i d) → map f xs ≡ xs
map_back f [] each = refl
map_back f (x ∷ xs) each =
    let here : f x ≡ x = each zero x (omega arith) in
    let rest = map_back f xs (λ i d lt. each (suc i) d (omega arith)) in
    rw (here, rest) refl

-- what is numbered and named is as it was
pub named-numbered : (items : List Item) → map (named_by (vertices_of items User) (vertices_of items Post)) (numbered items) ≡ items
unfolding numbered
named-numbered items =
    map_both (named_by (vertices_of items User) (vertices_of items Post)) (numbered_by (vertices_of items User) (vertices_of items Post)) items
    ∙ map_back (λ (x : Item). named_by (vertices_of items User) (vertices_of items Post) (numbered_by (vertices_of items User) (vertices_of items Post) x)) items
    (λ i d h.
    let a = (on_side items User i d h).1 in
    let b = (on_side items Post i d h).1 in
    rw (a, b) refl)

far_is : (items : List Item) (side : Side) (x : Item) → vertex_across side (numbered_by (vertices_of items User) (vertices_of items Post) x) ≡ number_in (vertices_of items (other_side side)) (vertex_on (other_side side) x)
far_is items User x = refl
far_is items Post x = refl

across_is : (side : Side) (x : Item) → vertex_across side x ≡ vertex_on (other_side side) x
across_is User x = refl
across_is Post x = refl

same_test : (a b : Bool) (c : Bool) → a ≡ b → (a && c) ≡ (b && c)
same_test a b c e = ap (λ (x : Bool). x && c) e

-- at the vertex by its identifier exactly where at it by its number
eligible_same : (items : List Item) (side : Side) (v i : ℕ) (d : Item) (mask : Mask) → v < length (vertices_of items side) → i < length items
    → is_eligible side (get_or (vertices_of items side) v 0) mask (get_or items i d)
    ≡ is_eligible side v mask (numbered_by (vertices_of items User) (vertices_of items Post) (get_or items i d))
eligible_same items side v i d mask below h =
    let x = get_or items i d in
    let ids = vertices_of items side in
    let at = on_side items side i d h in
    let near = near_is items side x in
    let same : eqb (vertex_on side x) (get_or ids v 0) ≡ eqb (vertex_on side (numbered_by (vertices_of items User) (vertices_of items Post) x)) v =
    elim (cases_eq (number_in ids (vertex_on side x)) v) [
      | inl is ↦
          eq-eqb _ _ (sym at.1 ∙ ap (λ (n : ℕ). get_or ids n 0) is) ∙ sym (eq-eqb _ _ (near ∙ is))
      | inr ne ↦
          ne_eqb _ _ (λ (e : vertex_on side x ≡ get_or ids v 0). ne (ap (number_in ids) e ∙ number_in-at ids v (distinct-firsts (map (vertex_on side) items)) below))
          ∙ sym (ne_eqb _ _ (λ (e : vertex_on side (numbered_by (vertices_of items User) (vertices_of items Post) x) ≡ v). ne (sym near ∙ e)))
    ] in
    same_test _ _ (lets mask x.kind x.at) same

end_same : (items : List Item) (side : Side) (i : ℕ) (d : Item) → i < length items
    → end_across side (get_or items i d) ≡ named_end items side (end_across side (numbered_by (vertices_of items User) (vertices_of items Post) (get_or items i d)))
end_same items side i d h =
    let x = get_or items i d in
    let at = on_side items (other_side side) i d h in
    let name : vertex_across side x ≡ get_or (vertices_of items (other_side side)) (vertex_across side (numbered_by (vertices_of items User) (vertices_of items Post) x)) 0 =
    across_is side x ∙ (sym at.1 ∙ ap (λ (n : ℕ). get_or (vertices_of items (other_side side)) n 0) (sym (far_is items side x))) in
    ap (λ (n : ℕ). let e : ℕ × Kind = (n, x.kind) in e) name

-- the ends of a vertex by its identifier are those by its number, named
pub ends-named : (items : List Item) (side : Side) (v : ℕ) (mask : Mask) → v < length (vertices_of items side)
    → ends items side (get_or (vertices_of items side) v 0) mask ≡ map (named_end items side) (ends (numbered items) side v mask)
unfolding ends numbered
ends-named items side v mask below =
    same_read (end_across side) (is_eligible side (get_or (vertices_of items side) v 0) mask)
    (λ (y : Item). named_end items side (end_across side y)) (is_eligible side v mask) (numbered_by (vertices_of items User) (vertices_of items Post)) items
    (λ i d h. (eligible_same items side v i d mask below h, end_same items side i d h))
    ∙ sym (map_both (named_end items side) (end_across side) _)

-- the ends by numbers are numbers of the other side
pub ends-below : (items : List Item) (side : Side) (v : ℕ) (mask : Mask) (i : ℕ) (d : ℕ × Kind) → i < length (ends (numbered items) side v mask)
    → (get_or (ends (numbered items) side v mask) i d).0 < length (vertices_of items (other_side side))
unfolding ends numbered
ends-below items side v mask i d h =
    each_read (λ (e : ℕ × Kind). e.0 < length (vertices_of items (other_side side))) (end_across side) (is_eligible side v mask)
    (map (numbered_by (vertices_of items User) (vertices_of items Post)) items)
    (λ k c lt.
    let x0 : Item = record { user = 0; post = 0; kind = Click; at = 0 } in
    let lt' : k < length items = omega (arith, lt, length-map items (numbered_by (vertices_of items User) (vertices_of items Post))) in
    let is = get_or-map (numbered_by (vertices_of items User) (vertices_of items Post)) items k x0 c lt' in
    rw is (rw (far_is items side (get_or items k x0)) (on_side items (other_side side) k x0 lt').0))
    i d h

none_read : {X Z : Type 0} (f : X → Z) (p : X → Bool) (xs : List X) → ((i : ℕ) (d : X) → i < length xs → p (get_or xs i d) ≡ false) → map f (filter p xs) ≡ []
none_read f p [] each = refl
none_read f p (x ∷ xs) each =
    let e : p x ≡ false = each zero x (omega arith) in
    rw e (none_read f p xs (λ i d lt. each (suc i) d (omega arith)))

-- an identifier that no interaction has has no ends
pub ends-absent : (items : List Item) (side : Side) (id : ℕ) (mask : Mask) → place_of (vertices_of items side) id ≡ None → ends items side id mask ≡ []
unfolding ends
ends-absent items side id mask none =
    none_read (end_across side) (is_eligible side id mask) items
    (λ i d h.
    let ids = map (vertex_on side) items in
    let size : length ids ≡ length items = length-map items (vertex_on side) in
    let is : get_or ids i 0 ≡ vertex_on side (get_or items i d) = get_or-map (vertex_on side) items i d 0 h in
    let held : IsIn (firsts ids) (get_or ids i 0) = in-firsts ids i (omega (arith, h, size)) in
    let found = found-in (firsts ids) (get_or ids i 0) (distinct-firsts ids) held in
    same_test (eqb (vertex_on side (get_or items i d)) id) false (lets mask (get_or items i d).kind (get_or items i d).at)
    (ne_eqb _ _ (λ (e : vertex_on side (get_or items i d) ≡ id). absurd (cc (none, ap (place_of (firsts ids)) (is ∙ e), found)))))

pub count_named : (items : List Item) (side : Side) (id v : ℕ) (mask : Mask) → place_of (vertices_of items side) id ≡ Some v
    → length (ends items side id mask) ≡ length (ends (numbered items) side v mask)
count_named items side id v mask found =
    let at = place_of-Some (vertices_of items side) id v found in
    ap (λ (n : ℕ). length (ends items side n mask)) (sym at.1)
    ∙ (ap length (ends-named items side v mask at.0) ∙ length-map (ends (numbered items) side v mask) (named_end items side))

pub end_below : (items : List Item) (side : Side) (v i : ℕ) (mask : Mask) (e : ℕ × Kind) → i < length (ends (numbered items) side v mask)
    → slice_get (ends (numbered items) side v mask) i ≡ Some e → e.0 < length (vertices_of items (other_side side))
end_below items side v i mask e below is =
    let here : get_or (ends (numbered items) side v mask) i e ≡ e = get_or_from_slice_get (ends (numbered items) side v mask) i e e is in
    let lt = ends-below items side v mask i e below in
    omega (arith, lt, ap (λ (x : ℕ × Kind). x.0) here)

pub end_named : (items : List Item) (side : Side) (id v i : ℕ) (mask : Mask) (e : ℕ × Kind) (far : ℕ) → place_of (vertices_of items side) id ≡ Some v
    → slice_get (ends (numbered items) side v mask) i ≡ Some e → far ≡ get_or (vertices_of items (other_side side)) e.0 0
    → slice_get (ends items side id mask) i ≡ Some (far, e.1)
end_named items side id v i mask e far found is far_at =
    let at = place_of-Some (vertices_of items side) id v found in
    ap (λ (n : ℕ). slice_get (ends items side n mask) i) (sym at.1)
    ∙ (ap (λ (l : List (ℕ × Kind)). slice_get l i) (ends-named items side v mask at.0)
    ∙ (slice_get-map (named_end items side) (ends (numbered items) side v mask) i
    ∙ (ap (option_map (named_end items side)) is ∙ ap (λ (n : ℕ). let o : Option (ℕ × Kind) = Some (n, e.1) in o) (sym far_at))))
