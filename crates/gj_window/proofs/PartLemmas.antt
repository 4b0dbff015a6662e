-- The ends of a vertex over two parts of a list.
use Rattle.std.proofs.Common.{◌≡◌, ℕ, zero, suc, ◌+◌, ◌-◌, ◌<◌, ◌≤◌, ◌∙◌, List, [], ◌∷◌, ◌++◌, length, map, filter, slice_get, Some, get_or, drop, refl, arith, sym, ap, length-append, append_assoc}
use Rattle.std.proofs.lemmas.List.{map-append, get_or_append_left, get_or-append_right, drop-append-le}
use Rattle.std.proofs.lemmas.List.Elements.{filter-append}
use Rattle.std.proofs.lemmas.List.Sums.{count_by-le-length}
use Rattle.std.proofs.lemmas.Option.{slice_get-get_or, slice_get_within, get_or_from_slice_get}
use Rattle.gj_base.specs.declared.item.Item.{Item}
use Rattle.gj_base.specs.declared.kind.Kind.{Kind}
use Rattle.gj_base.specs.declared.mask.Mask.{Mask}
use Rattle.gj_base.specs.declared.side.Side.{Side}
use Rattle.gj_base.specs.Ends.{ends, is_eligible, end_across}
use Rattle.gj_base.specs.Kinds.{all_kinds}
use Rattle.gj_base.specs.Numbered.{dated_ends, lets_end}
use Rattle.gj_base.proofs.EndsLemmas.{length_ends}
use Rattle.gj_base.proofs.MaskedLemmas.{count_ends, length-dated}

pub ends-append : (xs ys : List Item) (side : Side) (v : ℕ) (mask : Mask) → ends (xs ++ ys) side v mask ≡ ends xs side v mask ++ ends ys side v mask
unfolding ends
ends-append xs ys side v mask =
    ap (map (end_across side)) (filter-append (is_eligible side v mask) xs ys)
    ∙ map-append (end_across side) (filter (is_eligible side v mask) xs) (filter (is_eligible side v mask) ys)

-- a mask lets no more ends through than there are
pub ends_fewer : (xs : List Item) (side : Side) (v : ℕ) (mask : Mask) → length (ends xs side v mask) ≤ length (ends xs side v all_kinds)
ends_fewer xs side v mask = omega (arith, count_ends xs side v mask, length-dated xs side v, count_by-le-length (lets_end mask) (dated_ends xs side v))

pub ends_few : (xs : List Item) (side : Side) (v : ℕ) (mask : Mask) → length (ends xs side v mask) ≤ length xs
ends_few xs side v mask = omega (arith, length_ends xs side v mask, count_by-le-length (is_eligible side v mask) xs)

left_get : {X : Type 0} (xs ys : List X) (i : ℕ) (x : X) → slice_get xs i ≡ Some x → slice_get (xs ++ ys) i ≡ Some x
left_get xs ys i x is =
    let below = slice_get_within xs i x is in
    let here = get_or_from_slice_get xs i x x is in
    let e = get_or_append_left xs ys x i below in
    slice_get-get_or (xs ++ ys) i x (omega (arith, below, length-append xs ys)) ∙ ap (λ y. Some y) (e ∙ here)

right_get : {X : Type 0} (xs ys : List X) (i n : ℕ) (x : X) → n ≡ length xs → n ≤ i → slice_get ys (i - n) ≡ Some x → slice_get (xs ++ ys) i ≡ Some x
right_get xs ys i n x long past is =
    let below = slice_get_within ys (i - n) x is in
    let here = get_or_from_slice_get ys (i - n) x x is in
    let e = get_or-append_right xs ys n i x (sym long) past in
    slice_get-get_or (xs ++ ys) i x (omega (arith, below, length-append xs ys, long)) ∙ ap (λ y. Some y) (e ∙ here)

pub parts_count : (xs ys : List Item) (side : Side) (v : ℕ) (mask : Mask) (n m : ℕ) → n ≡ length (ends xs side v mask) → m ≡ length (ends ys side v mask)
    → n + m ≡ length (ends (xs ++ ys) side v mask)
parts_count xs ys side v mask n m a b =
    omega (arith, a, b, ap length (ends-append xs ys side v mask), length-append (ends xs side v mask) (ends ys side v mask))

pub parts_left : (xs ys : List Item) (side : Side) (v : ℕ) (mask : Mask) (i : ℕ) (e : ℕ × Kind) → slice_get (ends xs side v mask) i ≡ Some e
    → slice_get (ends (xs ++ ys) side v mask) i ≡ Some e
parts_left xs ys side v mask i e is =
    ap (λ (l : List (ℕ × Kind)). slice_get l i) (ends-append xs ys side v mask) ∙ left_get (ends xs side v mask) (ends ys side v mask) i e is

pub parts_right : (xs ys : List Item) (side : Side) (v : ℕ) (mask : Mask) (i n : ℕ) (e : ℕ × Kind) → n ≡ length (ends xs side v mask) → n ≤ i
    → slice_get (ends ys side v mask) (i - n) ≡ Some e → slice_get (ends (xs ++ ys) side v mask) i ≡ Some e
parts_right xs ys side v mask i n e long past is =
    ap (λ (l : List (ℕ × Kind)). slice_get l i) (ends-append xs ys side v mask) ∙ right_get (ends xs side v mask) (ends ys side v mask) i n e long past is

-- an index past the ends of the first part is one of the second
pub parts_rest : (xs ys : List Item) (side : Side) (v : ℕ) (mask : Mask) (i n : ℕ) → n ≡ length (ends xs side v mask) → n ≤ i
    → i < length (ends (xs ++ ys) side v mask) → i - n < length (ends ys side v mask)
parts_rest xs ys side v mask i n long past below =
    omega (arith, long, past, below, ap length (ends-append xs ys side v mask), length-append (ends xs side v mask) (ends ys side v mask))

-- what is left where the first part loses its first ones
pub dropped : (f1 o1 n1 f0 o0 n0 left : List Item) (k : ℕ) → left ≡ drop k f1 → k ≤ length f1 → f1 ++ o1 ≡ f0 ++ o0 → n1 ≡ n0
    → left ++ (o1 ++ n1) ≡ drop k (f0 ++ (o0 ++ n0))
dropped f1 o1 n1 f0 o0 n0 left k is long same newest =
    ap (λ (l : List Item). l ++ (o1 ++ n1)) is
    ∙ (sym (drop-append-le k f1 (o1 ++ n1) long)
    ∙ ap (drop k) (sym (append_assoc f1 o1 n1)
    ∙ (ap (λ (l : List Item). l ++ n1) same
    ∙ (append_assoc f0 o0 n1 ∙ ap (λ (l : List Item). f0 ++ (o0 ++ l)) newest))))
