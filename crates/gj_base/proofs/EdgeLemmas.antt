-- The interactions of some users, item by item.
use Rattle.std.proofs.Common.{◌≡◌, ℕ, ◌+◌, ◌≤◌, ◌∙◌, ◌++◌, ◌&&◌, Bool, true, false, cond, List, [], ◌∷◌, length, take, filter, slice_get, Some, append-nil, ap, refl}
use Rattle.std.proofs.lemmas.List.{take_more, take_all}
use Rattle.std.proofs.lemmas.List.Elements.{filter-append}
use Rattle.std.proofs.lemmas.Option.{get_or_from_slice_get, slice_get_within}
use Rattle.gj_base.specs.declared.item.Item.{Item}
use Rattle.gj_base.specs.declared.mask.Mask.{Mask}
use Rattle.gj_base.specs.Edges.{stands_in, edges_of}
use Rattle.gj_base.specs.Ends.{passes}

pub edges_none : (users : List ℕ) (mask : Mask) → edges_of [] users mask ≡ []
unfolding edges_of
edges_none users mask = refl

-- one more
pub edges_next : (items : List Item) (users : List ℕ) (mask : Mask) (i : ℕ) (x : Item) → slice_get items i ≡ Some x
    → edges_of (take (i + 1) items) users mask
    ≡ cond (passes mask x && stands_in users x.user) (edges_of (take i items) users mask ++ x ∷ []) (edges_of (take i items) users mask)
unfolding edges_of
edges_next items users mask i x is =
    let p : Item → Bool = λ y. passes mask y && stands_in users y.user in
    let one : take (i + 1) items ≡ take i items ++ x ∷ [] =
    take_more items i x (slice_get_within items i x is) ∙ ap (λ y. take i items ++ y ∷ []) (get_or_from_slice_get items i x x is) in
    rw (one, filter-append p (take i items) (x ∷ [])) (next_case (p x) (filter p (take i items)))
  where
    next_case : (b : Bool) (xs : List Item) → xs ++ cond b (x ∷ []) [] ≡ cond b (xs ++ x ∷ []) xs
    next_case true xs = refl
    next_case false xs = append-nil xs

-- all of them
pub edges_whole : (items : List Item) (users : List ℕ) (mask : Mask) (n : ℕ) → length items ≤ n → edges_of (take n items) users mask ≡ edges_of items users mask
edges_whole items users mask n long = ap (λ (l : List Item). edges_of l users mask) (take_all n items long)
