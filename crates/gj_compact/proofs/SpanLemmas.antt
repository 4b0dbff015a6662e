-- Counts by blocks whose moments are all before the least moment, or none of them.
use Rattle.std.proofs.Common.{◌≡◌, ℕ, suc, ◌+◌, ◌-◌, ◌*◌, ◌/◌, ◌<◌, ◌≤◌, ◌∙◌, Bool, false, cond, List, [], ◌∷◌, length, filter, take, drop, get_or, count_by, slice_get, refl, arith, sym, ap, inl, inr}
use Rattle.std.proofs.lemmas.Bool.{cases_Bool, le-leb, lt-leb}
use Rattle.std.proofs.lemmas.List.{length-take, length-drop, get_or-take, get_or-drop, drop-drop, get_or_default}
use Rattle.std.proofs.lemmas.List.Sums.{sum_by-cons}
use Rattle.gj_base.specs.declared.kind.Kind.{Kind}
use Rattle.gj_base.specs.declared.mask.Mask.{Mask}
use Rattle.gj_base.specs.Kinds.{has_kind}
use Rattle.gj_compact.specs.declared.edge.End.{End}
use Rattle.gj_compact.specs.declared.spans.Span.{Span}
use Rattle.gj_compact.specs.Blocks.{lets_through}
use Rattle.gj_compact.specs.Cells.{joined}
use Rattle.gj_compact.specs.Spans.{Bounds, AreSpans, no_span}
use Rattle.gj_compact.proofs.CellLemmas.{take-joined, drop-joined}
use Rattle.gj_compact.proofs.SumLemmas.{count-joined, count_split, nth_split}

-- no moment of these is before the least one of the mask, or each is
abbrev pub AllSince : Mask → List ℕ → Type 0
AllSince mask ats = (i : ℕ) → i < length ats → mask.not_before ≤ get_or ats i 0

abbrev pub AllBefore : Mask → List ℕ → Type 0
AllBefore mask ats = (i : ℕ) → i < length ats → get_or ats i 0 < mask.not_before

pub lets_since : (mask : Mask) (v : ℕ) (kind : Kind) (at : ℕ) → mask.not_before ≤ at → lets_through mask (record { vertex = v; kind = kind; at = at }) ≡ has_kind mask kind
lets_since mask v kind at since =
    let passes = le-leb mask.not_before at since in
    elim (cases_Bool (has_kind mask kind)) [ inl h ↦ rw (h, passes) refl | inr h ↦ rw h refl ]

lets_none : (mask : Mask) (v : ℕ) (kind : Kind) (at : ℕ) → at < mask.not_before → lets_through mask (record { vertex = v; kind = kind; at = at }) ≡ false
lets_none mask v kind at before =
    let stays = lt-leb mask.not_before at before in
    elim (cases_Bool (has_kind mask kind)) [ inl h ↦ rw (h, stays) refl | inr h ↦ rw h refl ]

since-joined : (mask : Mask) (vs : List ℕ) (ks : List Kind) (ats : List ℕ) → length ks ≡ length vs → length ats ≡ length vs → AllSince mask ats
    → count_by (lets_through mask) (joined vs ks ats) ≡ count_by (has_kind mask) ks
unfolding joined
since-joined mask [] [] ats e f since = refl
since-joined mask [] (k ∷ ks) ats e f since = absurd (omega arith)
since-joined mask (v ∷ vs) [] ats e f since = absurd (omega arith)
since-joined mask (v ∷ vs) (k ∷ ks) [] e f since = absurd (omega arith)
since-joined mask (v ∷ vs) (k ∷ ks) (a ∷ ats) e f since =
    let rest = since-joined mask vs ks ats (omega arith) (omega arith) (λ (i : ℕ) (h : i < length ats). since (suc i) (omega arith)) in
    let here = ap {B = ℕ} (λ (b : Bool). cond b 1 0) (lets_since mask v k a (since 0 (omega arith))) in
    let left = sum_by-cons (λ (x : End). cond (lets_through mask x) 1 0) (record { vertex = v; kind = k; at = a }) (joined vs ks ats) in
    let right = sum_by-cons (λ (x : Kind). cond (has_kind mask x) 1 0) k ks in
    omega (arith, rest, here, left, right)

before-joined : (mask : Mask) (vs : List ℕ) (ks : List Kind) (ats : List ℕ) → length ks ≡ length vs → length ats ≡ length vs → AllBefore mask ats
    → count_by (lets_through mask) (joined vs ks ats) ≡ 0
unfolding joined
before-joined mask [] ks ats e f before = refl
before-joined mask (v ∷ vs) [] ats e f before = absurd (omega arith)
before-joined mask (v ∷ vs) (k ∷ ks) [] e f before = absurd (omega arith)
before-joined mask (v ∷ vs) (k ∷ ks) (a ∷ ats) e f before =
    let rest = before-joined mask vs ks ats (omega arith) (omega arith) (λ (i : ℕ) (h : i < length ats). before (suc i) (omega arith)) in
    let here = ap {B = ℕ} (λ (b : Bool). cond b 1 0) (lets_none mask v k a (before 0 (omega arith))) in
    let left = sum_by-cons (λ (x : End). cond (lets_through mask x) 1 0) (record { vertex = v; kind = k; at = a }) (joined vs ks ats) in
    omega (arith, rest, here, left)

-- a part of the columns
part-joined : (vs : List ℕ) (ks : List Kind) (ats : List ℕ) (cells : List End) (from n : ℕ) → joined vs ks ats ≡ cells
    → take n (drop from cells) ≡ joined (take n (drop from vs)) (take n (drop from ks)) (take n (drop from ats))
part-joined vs ks ats cells from n view =
    ap (λ (l : List End). take n (drop from l)) (sym view)
    ∙ (ap (take n) (drop-joined from vs ks ats) ∙ take-joined n (drop from vs) (drop from ks) (drop from ats))

part_long : {X Y : Type 0} (xs : List X) (ys : List Y) (from n : ℕ) → length xs ≡ length ys → length (take n (drop from xs)) ≡ length (take n (drop from ys))
part_long xs ys from n e = omega (arith, length-take n (drop from xs), length-take n (drop from ys), length-drop from xs, length-drop from ys)

part_at : (ats : List ℕ) (from to i : ℕ) → i < length (take (to - from) (drop from ats)) → (get_or (take (to - from) (drop from ats)) i 0 ≡ get_or ats (from + i) 0) × (from + i < to)
part_at ats from to i h =
    let long = length-take (to - from) (drop from ats) in
    (get_or-take (to - from) (drop from ats) i 0 (omega arith) ∙ get_or-drop from ats i 0, omega arith)

-- the columns of ends
pub record AreColumns (vs : List ℕ) (ks : List Kind) (ats : List ℕ) (cells : List End) : Type 0 where
  pub view : joined vs ks ats ≡ cells
  pub kinds : length ks ≡ length vs
  pub moments : length ats ≡ length vs

pub count_since : (mask : Mask) (vs : List ℕ) (ks : List Kind) (ats : List ℕ) (cells : List End) (from to : ℕ) (span : Span) → AreColumns vs ks ats cells → from ≤ to
    → Bounds span ats from to → mask.not_before ≤ span.least → count_by (lets_through mask) (take (to - from) (drop from cells)) + count_by (has_kind mask) (take from ks) ≡ count_by (has_kind mask) (take to ks)
count_since mask vs ks ats cells from to span columns order bounds since =
    let part = ap (count_by (lets_through mask)) (part-joined vs ks ats cells from (to - from) columns.view)
    ∙ since-joined mask (take (to - from) (drop from vs)) (take (to - from) (drop from ks)) (take (to - from) (drop from ats))
    (part_long ks vs from (to - from) columns.kinds) (part_long ats vs from (to - from) columns.moments)
    (λ (i : ℕ) (h : i < length (take (to - from) (drop from ats))).
    (let at = part_at ats from to i h in omega (arith, at.0, (bounds (from + i) (omega arith) at.1).0))) in
    omega (arith, part, count_split (has_kind mask) ks from to order)

pub count_before : (mask : Mask) (vs : List ℕ) (ks : List Kind) (ats : List ℕ) (cells : List End) (from to : ℕ) (span : Span) → AreColumns vs ks ats cells
    → Bounds span ats from to → span.greatest < mask.not_before → count_by (lets_through mask) (take (to - from) (drop from cells)) ≡ 0
count_before mask vs ks ats cells from to span columns bounds before =
    ap (count_by (lets_through mask)) (part-joined vs ks ats cells from (to - from) columns.view)
    ∙ before-joined mask (take (to - from) (drop from vs)) (take (to - from) (drop from ks)) (take (to - from) (drop from ats))
    (part_long ks vs from (to - from) columns.kinds) (part_long ats vs from (to - from) columns.moments)
    (λ (i : ℕ) (h : i < length (take (to - from) (drop from ats))).
    (let at = part_at ats from to i h in omega (arith, at.0, (bounds (from + i) (omega arith) at.1).1)))

-- a mask over all moments looks at the kinds alone
pub count_ever : (mask : Mask) (vs : List ℕ) (ks : List Kind) (ats : List ℕ) (cells : List End) (from to : ℕ) → AreColumns vs ks ats cells → mask.not_before ≡ 0
    → count_by (lets_through mask) (take (to - from) (drop from cells)) ≡ count_by (has_kind mask) (take (to - from) (drop from ks))
count_ever mask vs ks ats cells from to columns ever =
    ap (count_by (lets_through mask)) (part-joined vs ks ats cells from (to - from) columns.view)
    ∙ count-joined mask (take (to - from) (drop from vs)) (take (to - from) (drop from ks)) (take (to - from) (drop from ats)) ever
    (part_long ks vs from (to - from) columns.kinds) (part_long ats vs from (to - from) columns.moments)

-- the span of the block bounds a part of it
pub span_part : (spans : List Span) (ats : List ℕ) (from to : ℕ) (span : Span) → AreSpans spans ats → from / 64 < length spans → span ≡ get_or spans (from / 64) span
    → to ≤ length ats → to ≤ 64 * (from / 64) + 64 → Bounds span ats from to
span_part spans ats from to span are below is inside block i low high =
    let e : get_or spans (from / 64) no_span ≡ span = get_or_default spans (from / 64) no_span span below ∙ sym is in
    let b = are (from / 64) below i (omega arith) (omega arith) in
    let least = ap (λ (s : Span). s.least) e in
    let greatest = ap (λ (s : Span). s.greatest) e in
    (omega (arith, b.0, least), omega (arith, b.1, greatest))

-- a part, and what follows it
pub count_rest : {X : Type 0} (f : X → Bool) (xs : List X) (from at to : ℕ) → from ≤ at → at ≤ to
    → count_by f (take (to - from) (drop from xs)) ≡ count_by f (take (at - from) (drop from xs)) + count_by f (take (to - at) (drop at xs))
count_rest {X = X} f xs from at to low high =
    let n : to - from - (at - from) ≡ to - at = omega arith in
    let place : from + (at - from) ≡ at = omega arith in
    count_split f (drop from xs) (at - from) (to - from) (omega arith)
    ∙ ap (λ (l : List X). count_by f (take (at - from) (drop from xs)) + count_by f l)
    (ap (λ (k : ℕ). take k (drop (at - from) (drop from xs))) n ∙ ap (take (to - at)) (drop-drop (at - from) from xs ∙ ap (λ (k : ℕ). drop k xs) place))

pub nth_rest : {X : Type 0} (f : X → Bool) (xs : List X) (from at to j : ℕ) → from ≤ at → at ≤ to
    → slice_get (filter f (take (to - from) (drop from xs))) (count_by f (take (at - from) (drop from xs)) + j) ≡ slice_get (filter f (take (to - at) (drop at xs))) j
nth_rest {X = X} f xs from at to j low high =
    let n : to - from - (at - from) ≡ to - at = omega arith in
    let place : from + (at - from) ≡ at = omega arith in
    nth_split f (drop from xs) (at - from) (to - from) j (omega arith)
    ∙ ap (λ (l : List X). slice_get (filter f l) j)
    (ap (λ (k : ℕ). take k (drop (at - from) (drop from xs))) n ∙ ap (take (to - at)) (drop-drop (at - from) from xs ∙ ap (λ (k : ℕ). drop k xs) place))
