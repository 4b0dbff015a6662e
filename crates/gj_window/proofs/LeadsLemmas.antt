-- Whether the ends of a vertex over two parts of a list lead to another.
use Rattle.std.proofs.Common.{◌≡◌, ℕ, ◌∙◌, ◌||◌, Bool, true, false, nat_eq, List, [], ◌∷◌, ◌++◌, length, slice_index, ap, refl, arith}
use Rattle.std.proofs.lemmas.List.Folds.{list_any-append}
use Rattle.gj_base.specs.declared.item.Item.{Item}
use Rattle.gj_base.specs.declared.kind.Kind.{Kind}
use Rattle.gj_base.specs.declared.mask.Mask.{Mask}
use Rattle.gj_base.specs.declared.side.Side.{Side}
use Rattle.gj_base.specs.Ends.{ends, leads_to}
use Rattle.gj_directory.specs.Directories.{ids_of}
use Rattle.gj_window.specs.declared.segments.Segments.TheInside.{Inside}
use Rattle.gj_window.specs.Segments.{Segmented, seen_of, names_on}
use Rattle.gj_window.proofs.PartLemmas.{ends-append}
use Rattle.gj_window.proofs.FieldLemmas.{name_is}

leads_both : (xs ys : List Item) (side : Side) (v : ℕ) (mask : Mask) (other : ℕ)
    → leads_to (ends (xs ++ ys) side v mask) other ≡ (leads_to (ends xs side v mask) other || leads_to (ends ys side v mask) other)
leads_both xs ys side v mask other =
    ap (λ (l : List (ℕ × Kind)). leads_to l other) (ends-append xs ys side v mask)
    ∙ list_any-append (λ (e : ℕ × Kind). nat_eq e.0 other) (ends xs side v mask) (ends ys side v mask)

pub leads_left : (xs ys : List Item) (side : Side) (v : ℕ) (mask : Mask) (other : ℕ) → leads_to (ends xs side v mask) other ≡ true
    → leads_to (ends (xs ++ ys) side v mask) other ≡ true
leads_left xs ys side v mask other is = leads_both xs ys side v mask other ∙ ap (λ (b : Bool). b || leads_to (ends ys side v mask) other) is

pub leads_right : (xs ys : List Item) (side : Side) (v : ℕ) (mask : Mask) (other : ℕ) → leads_to (ends xs side v mask) other ≡ false
    → leads_to (ends (xs ++ ys) side v mask) other ≡ leads_to (ends ys side v mask) other
leads_right xs ys side v mask other is = leads_both xs ys side v mask other ∙ ap (λ (b : Bool). b || leads_to (ends ys side v mask) other) is

-- an answer about the laid-out interactions
pub full_leads : (s : Inside) (w : Segmented) (side : Side) (v id : ℕ) (mask : Mask) (other : ℕ) (b : Bool) → seen_of s ≡ w → slice_index (names_on w side) v ≡ id
    → b ≡ leads_to (ends s.directory.full side (slice_index (ids_of s.directory side) v) mask) other → b ≡ leads_to (ends w.full side id mask) other
full_leads s w side v id mask other b e named is =
    is
    ∙ (ap (λ (k : ℕ). leads_to (ends s.directory.full side k mask) other) (name_is s w side v id e named)
    ∙ ap (λ (u : Segmented). leads_to (ends u.full side id mask) other) e)

-- a vertex without ends has none that leads anywhere
pub leads_nowhere : (ends : List (ℕ × Kind)) (other : ℕ) → 0 ≡ length ends → leads_to ends other ≡ false
leads_nowhere [] other none = refl
leads_nowhere (e ∷ rest) other none = absurd (omega arith)
