-- The ends of a vertex under a mask are those of its dated ends that the mask lets through.
use Rattle.std.proofs.Common.{◌≡◌, ℕ, ◌+◌, ◌<◌, ◌≤◌, ◌∙◌, Bool, List, [], ◌∷◌, length, map, count_by, filter, true, false, refl, arith, drop, take, get_or, drop-cons, slice_get, option_map, Some, sym, ap, add-one, eqb, inl, inr}
use Rattle.std.proofs.lemmas.Bool.{eq-eqb, ne_eqb, cases_eq, cases_Bool}
use Rattle.std.proofs.Math.Dec.{leb-zero}
use Rattle.std.proofs.lemmas.List.{length-take, length-map, take_all, drop_all}
use Rattle.std.proofs.lemmas.List.Sums.{length-filter, count_by-le-length, count_by_more_yes, count_by_more_no}
use Rattle.std.proofs.lemmas.Option.{get_or_from_slice_get, slice_get-map}
use Rattle.gj_base.specs.declared.side.Side.{Side}
use Rattle.gj_base.specs.declared.item.Item.{Item}
use Rattle.gj_base.specs.declared.mask.Mask.{Mask}
use Rattle.gj_base.specs.declared.kind.Kind.{Kind}
use Rattle.gj_base.specs.declared.kind.Kind.TheVariants.{Click, Favorite, Retweet, Reply, Tweet}
use Rattle.gj_base.specs.Ends.{ends, vertex_on}
use Rattle.gj_base.specs.Kinds.{lets, all_kinds}
use Rattle.gj_base.specs.Numbered.{dated_ends, lets_end}

pub lets-all : (kind : Kind) (at : ℕ) → lets all_kinds kind at ≡ true
lets-all Click at = leb-zero at
lets-all Favorite at = leb-zero at
lets-all Retweet at = leb-zero at
lets-all Reply at = leb-zero at
lets-all Tweet at = leb-zero at

-- an end without its moment
abbrev pub undated : ℕ × Kind × ℕ → ℕ × Kind
undated e = (e.0, e.1)

pub ends-dated : (items : List Item) (side : Side) (v : ℕ) (mask : Mask) → ends items side v mask ≡ map undated (filter (lets_end mask) (dated_ends items side v))
unfolding ends dated_ends
ends-dated [] side v mask = refl
ends-dated (x ∷ xs) side v mask =
    let rest = ends-dated xs side v mask in
    elim (cases_eq (vertex_on side x) v) [
      | inl is ↦
          let t : eqb (vertex_on side x) v ≡ true = eq-eqb (vertex_on side x) v is in
          elim (cases_Bool (lets mask x.kind x.at)) [
            | inl passes ↦ rw (t, passes, rest) refl
            | inr stays ↦ rw (t, stays, rest) refl
          ]
      | inr ne ↦ let t : eqb (vertex_on side x) v ≡ false = ne_eqb (vertex_on side x) v ne in rw (t, rest) refl
    ]

let_all : (es : List (ℕ × Kind × ℕ)) → filter (lets_end all_kinds) es ≡ es
let_all [] = refl
let_all (e ∷ es) = let here = lets-all e.1 e.2 in let rest = let_all es in rw (here, rest) refl

-- the ends over all kinds and moments
pub ends-all : (items : List Item) (side : Side) (v : ℕ) → ends items side v all_kinds ≡ map undated (dated_ends items side v)
ends-all items side v = ends-dated items side v all_kinds ∙ ap (map undated) (let_all (dated_ends items side v))

pub length-dated : (items : List Item) (side : Side) (v : ℕ) → length (dated_ends items side v) ≡ length (ends items side v all_kinds)
length-dated items side v = sym (ap length (ends-all items side v) ∙ length-map (dated_ends items side v) undated)

pub edge_undated : (items : List Item) (side : Side) (v i : ℕ) (e : ℕ × Kind × ℕ) → slice_get (dated_ends items side v) i ≡ Some e
    → slice_get (ends items side v all_kinds) i ≡ Some (undated e)
edge_undated items side v i e is =
    ap (λ (l : List (ℕ × Kind)). slice_get l i) (ends-all items side v) ∙ (slice_get-map undated (dated_ends items side v) i ∙ ap (option_map undated) is)

pub count_few : {A : Type 0} (p : A → Bool) (es : List A) (k : ℕ) → count_by p (take k es) ≤ k
count_few p es k = omega (arith, count_by-le-length p (take k es), length-take k es)

pub count_yes : {A : Type 0} (p : A → Bool) (es : List A) (k : ℕ) (e : A) → k < length es → slice_get es k ≡ Some e → p e ≡ true
    → count_by p (take (k + 1) es) ≡ count_by p (take k es) + 1
count_yes p es k e below is passes = count_by_more_yes p es k e below (ap p (get_or_from_slice_get es k e e is) ∙ passes)

pub count_no : {A : Type 0} (p : A → Bool) (es : List A) (k : ℕ) (e : A) → k < length es → slice_get es k ≡ Some e → p e ≡ false
    → count_by p (take (k + 1) es) ≡ count_by p (take k es)
count_no p es k e below is stays = count_by_more_no p es k e below (ap p (get_or_from_slice_get es k e e is) ∙ stays)

-- the eligible ones among all dated ends are the ends
pub count_ends : (items : List Item) (side : Side) (v : ℕ) (mask : Mask) → count_by (lets_end mask) (dated_ends items side v) ≡ length (ends items side v mask)
count_ends items side v mask =
    sym (length-filter (lets_end mask) (dated_ends items side v))
    ∙ sym (ap length (ends-dated items side v mask) ∙ length-map (filter (lets_end mask) (dated_ends items side v)) undated)

pub count_all : (items : List Item) (side : Side) (v k : ℕ) (mask : Mask) → length (dated_ends items side v) ≤ k
    → count_by (lets_end mask) (take k (dated_ends items side v)) ≡ length (ends items side v mask)
count_all items side v k mask past = ap (count_by (lets_end mask)) (take_all k (dated_ends items side v) past) ∙ count_ends items side v mask

pub front : {A : Type 0} (es : List A) (k : ℕ) (e : A) → k < length es → slice_get es k ≡ Some e → drop k es ≡ e ∷ drop (k + 1) es
front es k e below is =
    let here : get_or es k e ≡ e = get_or_from_slice_get es k e e is in
    rw (add-one, drop-cons es k e, here) refl

-- what is left of the eligible ends from an end on
abbrev pub left_ends : Mask → ℕ → List (ℕ × Kind × ℕ) → List (ℕ × Kind)
left_ends mask k es = map undated (filter (lets_end mask) (drop k es))

pub left_yes : (mask : Mask) (es : List (ℕ × Kind × ℕ)) (k : ℕ) (e : ℕ × Kind × ℕ) → k < length es → slice_get es k ≡ Some e → lets_end mask e ≡ true
    → left_ends mask k es ≡ undated e ∷ left_ends mask (k + 1) es
left_yes mask es k e below is passes = rw (front es k e below is, passes) refl

pub left_no : (mask : Mask) (es : List (ℕ × Kind × ℕ)) (k : ℕ) (e : ℕ × Kind × ℕ) → k < length es → slice_get es k ≡ Some e → lets_end mask e ≡ false
    → left_ends mask k es ≡ left_ends mask (k + 1) es
left_no mask es k e below is stays = rw (front es k e below is, stays) refl

pub left_past : (mask : Mask) (es : List (ℕ × Kind × ℕ)) (k : ℕ) → length es ≤ k → left_ends mask k es ≡ []
left_past mask es k past = let none : drop k es ≡ [] = drop_all k es past in rw none refl
