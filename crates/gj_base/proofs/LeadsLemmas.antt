-- Whether the ends of a vertex lead to another, end by end.
use Rattle.std.proofs.Common.{◌≡◌, ℕ, zero, suc, ◌+◌, ◌∙◌, ◌||◌, Bool, true, false, nat_eq, List, [], ◌∷◌, take, slice_get, Some, ap, refl}
use Rattle.std.proofs.lemmas.List.Folds.{list_any_more}
use Rattle.std.proofs.lemmas.Option.{get_or_from_slice_get, slice_get_within}
use Rattle.gj_base.specs.declared.kind.Kind.{Kind}
use Rattle.gj_base.specs.Ends.{leads_to}

-- one more end
pub leads_more : (edges : List (ℕ × Kind)) (i v : ℕ) (end : ℕ × Kind) → slice_get edges i ≡ Some end
    → leads_to (take (i + 1) edges) v ≡ (leads_to (take i edges) v || nat_eq end.0 v)
leads_more edges i v end is =
    let within = slice_get_within edges i end is in
    list_any_more (λ e. nat_eq e.0 v) edges i end within
    ∙ ap (λ (e : ℕ × Kind). leads_to (take i edges) v || nat_eq e.0 v) (get_or_from_slice_get edges i end end is)

-- an end that is found in a front is found in all
pub leads_found : (edges : List (ℕ × Kind)) (i v : ℕ) (end : ℕ × Kind) → slice_get edges i ≡ Some end → nat_eq end.0 v ≡ true
    → leads_to edges v ≡ true
leads_found [] i v end is e = cc
leads_found (x ∷ xs) zero v end is e = let same : x ≡ end = cc in rw (same, e) refl
leads_found (x ∷ xs) (suc i) v end is e = rw (leads_found xs i v end is e) (or_true (nat_eq x.0 v))
  where
    or_true : (b : Bool) → (b || true) ≡ true
    or_true true = refl
    or_true false = refl

-- neither part of a test
pub or_none : (more front b : Bool) → more ≡ (front || b) → front ≡ false → b ≡ false → more ≡ false
or_none more front b e f g = rw (f, g) at e
