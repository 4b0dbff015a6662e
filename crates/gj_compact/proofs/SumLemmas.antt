-- Counts of kinds before a place.
use Rattle.std.proofs.Common.{◌≡◌, ℕ, suc, ◌+◌, ◌-◌, ◌*◌, ◌/◌, ◌<◌, ◌≤◌, ◌∙◌, Bool, true, false, cond, List, [], ◌∷◌, ◌++◌, length, filter, take, drop, get_or, count_by, slice_get, refl, arith, sym, ap, inl, inr, zero-add}
use Rattle.std.proofs.lemmas.Bool.{cases_Bool}
use Rattle.std.proofs.Math.Dec.{leb-zero}
use Rattle.std.proofs.lemmas.List.{length-take, take-append-drop, take-take, drop-take, get_or_default}
use Rattle.std.proofs.lemmas.List.Sums.{sum_by-append, sum_by-cons, sum_by_more, count_by-le-length, length-filter}
use Rattle.std.proofs.lemmas.List.Elements.{filter-append}
use Rattle.gj_base.specs.declared.kind.Kind.{Kind}
use Rattle.gj_base.specs.declared.kind.Kind.TheVariants.{Click, Favorite, Retweet, Reply, Tweet}
use Rattle.gj_base.specs.declared.mask.Mask.{Mask}
use Rattle.gj_base.specs.Kinds.{has_kind, same_kind}
use Rattle.gj_compact.specs.declared.counts.Counts.{Counts}
use Rattle.gj_compact.specs.declared.edge.End.{End}
use Rattle.gj_compact.specs.Blocks.{lets_through}
use Rattle.gj_compact.specs.Cells.{joined}
use Rattle.gj_compact.specs.Counting.{kind_count, counted, none_counted}
use Rattle.gj_compact.specs.Sums.{AreCounts, AreSums}
use Rattle.gj_compact.proofs.CellLemmas.{take-joined}

pub take_split : {A : Type 0} (xs : List A) (q p : ℕ) → q ≤ p → take p xs ≡ take q xs ++ take (p - q) (drop q xs)
take_split {A = A} xs q p order =
    let whole : p ≡ q + (p - q) = omega arith in
    sym (take-append-drop q (take p xs))
    ∙ (ap (λ (l : List A). l ++ drop q (take p xs)) (take-take q p xs order)
    ∙ ap (λ (l : List A). take q xs ++ l) (ap (λ (n : ℕ). drop q (take n xs)) whole ∙ drop-take q (p - q) xs))

pub count_split : {A : Type 0} (f : A → Bool) (xs : List A) (q p : ℕ) → q ≤ p → count_by f (take p xs) ≡ count_by f (take q xs) + count_by f (take (p - q) (drop q xs))
count_split {A = A} f xs q p order = ap (count_by f) (take_split xs q p order) ∙ sum_by-append (λ (x : A). cond (f x) 1 0) (take q xs) (take (p - q) (drop q xs))

later : {A : Type 0} (xs ys : List A) (j : ℕ) → slice_get (xs ++ ys) (length xs + j) ≡ slice_get ys j
later [] ys j = ap (slice_get ys) (zero-add j)
later (x ∷ xs) ys j =
    let n : length (x ∷ xs) + j ≡ suc (length xs + j) = omega arith in
    ap (slice_get (x ∷ (xs ++ ys))) n ∙ later xs ys j

-- an eligible element of a part by its index among those before too
pub nth_split : {A : Type 0} (f : A → Bool) (xs : List A) (q p j : ℕ) → q ≤ p
    → slice_get (filter f (take p xs)) (count_by f (take q xs) + j) ≡ slice_get (filter f (take (p - q) (drop q xs))) j
nth_split {A = A} f xs q p j order =
    ap (λ (l : List A). slice_get l (count_by f (take q xs) + j)) (ap (filter f) (take_split xs q p order) ∙ filter-append f (take q xs) (take (p - q) (drop q xs)))
    ∙ (ap (λ (n : ℕ). slice_get (filter f (take q xs) ++ filter f (take (p - q) (drop q xs))) (n + j)) (sym (length-filter f (take q xs)))
    ∙ later (filter f (take q xs)) (filter f (take (p - q) (drop q xs))) j)

-- one more of a kind among the counts of all
one_kind : (mask : Mask) (kind : Kind) (a b c d e : ℕ)
    → cond (has_kind mask Click) (cond (same_kind Click kind) 1 0 + a) 0
    + cond (has_kind mask Favorite) (cond (same_kind Favorite kind) 1 0 + b) 0
    + cond (has_kind mask Retweet) (cond (same_kind Retweet kind) 1 0 + c) 0
    + cond (has_kind mask Reply) (cond (same_kind Reply kind) 1 0 + d) 0
    + cond (has_kind mask Tweet) (cond (same_kind Tweet kind) 1 0 + e) 0
    ≡ cond (has_kind mask kind) 1 0
    + (cond (has_kind mask Click) a 0 + cond (has_kind mask Favorite) b 0 + cond (has_kind mask Retweet) c 0 + cond (has_kind mask Reply) d 0 + cond (has_kind mask Tweet) e 0)
one_kind mask Click a b c d e = elim (cases_Bool (has_kind mask Click)) [ inl h ↦ simp (h, zero-add) (omega arith) | inr h ↦ simp (h, zero-add) (omega arith) ]
one_kind mask Favorite a b c d e = elim (cases_Bool (has_kind mask Favorite)) [ inl h ↦ simp (h, zero-add) (omega arith) | inr h ↦ simp (h, zero-add) (omega arith) ]
one_kind mask Retweet a b c d e = elim (cases_Bool (has_kind mask Retweet)) [ inl h ↦ simp (h, zero-add) (omega arith) | inr h ↦ simp (h, zero-add) (omega arith) ]
one_kind mask Reply a b c d e = elim (cases_Bool (has_kind mask Reply)) [ inl h ↦ simp (h, zero-add) (omega arith) | inr h ↦ simp (h, zero-add) (omega arith) ]
one_kind mask Tweet a b c d e = elim (cases_Bool (has_kind mask Tweet)) [ inl h ↦ simp (h, zero-add) (omega arith) | inr h ↦ simp (h, zero-add) (omega arith) ]

cond_none : (b : Bool) → ◌≡◌ {A = ℕ} (cond b 0 0) 0
cond_none true = refl
cond_none false = refl

count_cons : (f : Kind → Bool) (k : Kind) (ks : List Kind) → count_by f (k ∷ ks) ≡ cond (f k) 1 0 + count_by f ks
count_cons f k ks = sum_by-cons (λ (x : Kind). cond (f x) 1 0) k ks

-- the counts of the mask's kinds among some kinds
abbrev all_of : Mask → List Kind → ℕ
all_of mask ks =
    cond (has_kind mask Click) (count_by (same_kind Click) ks) 0
    + cond (has_kind mask Favorite) (count_by (same_kind Favorite) ks) 0
    + cond (has_kind mask Retweet) (count_by (same_kind Retweet) ks) 0
    + cond (has_kind mask Reply) (count_by (same_kind Reply) ks) 0
    + cond (has_kind mask Tweet) (count_by (same_kind Tweet) ks) 0

all_kinds_count : (mask : Mask) (ks : List Kind) → all_of mask ks ≡ count_by (has_kind mask) ks
all_kinds_count mask [] = omega (arith, cond_none (has_kind mask Click), cond_none (has_kind mask Favorite), cond_none (has_kind mask Retweet), cond_none (has_kind mask Reply), cond_none (has_kind mask Tweet))
all_kinds_count mask (k ∷ ks) =
    let rest = all_kinds_count mask ks in
    rw (count_cons (same_kind Click) k ks, count_cons (same_kind Favorite) k ks, count_cons (same_kind Retweet) k ks, count_cons (same_kind Reply) k ks, count_cons (same_kind Tweet) k ks, count_cons (has_kind mask) k ks)
    (one_kind mask k _ _ _ _ _ ∙ ap (λ (n : ℕ). cond (has_kind mask k) 1 0 + n) rest)

pub counted_is : (mask : Mask) (counts : Counts) (ks : List Kind) → AreCounts counts ks → counted mask counts ≡ count_by (has_kind mask) ks
counted_is mask counts ks are =
    let a = are Click in
    let b = are Favorite in
    let c = are Retweet in
    let d = are Reply in
    let e = are Tweet in
    rw (a, b, c, d, e) (all_kinds_count mask ks)

-- one kind more
pub counts_more : (counts counts' : Counts) (ks : List Kind) (i : ℕ) (k : Kind) → AreCounts counts (take i ks) → i < length ks → k ≡ get_or ks i k
    → ((other : Kind) → kind_count counts' other ≡ kind_count counts other + cond (same_kind other k) 1 0) → AreCounts counts' (take (i + 1) ks)
counts_more counts counts' ks i k are below is more = λ other.
    let step = sum_by_more (λ (x : Kind). cond (same_kind other x) 1 0) ks i k below in
    let here = ap {B = ℕ} (λ (x : Kind). cond (same_kind other x) 1 0) is in
    omega (arith, more other, are other, step, here)

-- the kinds of one part more
pub counts_after : (counts counts' : Counts) (ks part : List Kind) (q p : ℕ) → q ≤ p → AreCounts counts (take q ks) → part ≡ take (p - q) (drop q ks)
    → ((kind : Kind) → kind_count counts' kind ≡ kind_count counts kind + count_by (same_kind kind) part) → AreCounts counts' (take p ks)
counts_after counts counts' ks part q p order are is more = λ kind.
    let here = ap (count_by (same_kind kind)) is in
    omega (arith, more kind, are kind, here, count_split (same_kind kind) ks q p order)

pub counts_few : (counts : Counts) (ks : List Kind) (i : ℕ) (other : Kind) → AreCounts counts (take i ks) → kind_count counts other ≤ i
counts_few counts ks i other are = omega (arith, are other, count_by-le-length (same_kind other) (take i ks), length-take i ks)

-- a mask over all moments looks at the kinds alone
lets_ever : (mask : Mask) (kind : Kind) (at : ℕ) → mask.not_before ≡ 0 → lets_through mask (record { vertex = 0; kind = kind; at = at }) ≡ has_kind mask kind
lets_ever mask kind at ever =
    let passes = leb-zero at in
    elim (cases_Bool (has_kind mask kind)) [ inl h ↦ rw (ever, h, passes) refl | inr h ↦ rw h refl ]

pub count-joined : (mask : Mask) (vs : List ℕ) (ks : List Kind) (ats : List ℕ) → mask.not_before ≡ 0 → length ks ≡ length vs → length ats ≡ length vs
    → count_by (lets_through mask) (joined vs ks ats) ≡ count_by (has_kind mask) ks
unfolding joined
count-joined mask [] [] ats ever e f = refl
count-joined mask [] (k ∷ ks) ats ever e f = absurd (omega arith)
count-joined mask (v ∷ vs) [] ats ever e f = absurd (omega arith)
count-joined mask (v ∷ vs) (k ∷ ks) [] ever e f = absurd (omega arith)
count-joined mask (v ∷ vs) (k ∷ ks) (a ∷ ats) ever e f =
    let rest = count-joined mask vs ks ats ever (omega arith) (omega arith) in
    let here = ap {B = ℕ} (λ (b : Bool). cond b 1 0) (lets_ever mask k a ever) in
    let left = sum_by-cons (λ (x : End). cond (lets_through mask x) 1 0) (record { vertex = v; kind = k; at = a }) (joined vs ks ats) in
    omega (arith, rest, here, left, count_cons (has_kind mask) k ks)

pub front_count : (mask : Mask) (vs : List ℕ) (ks : List Kind) (ats : List ℕ) (n : ℕ) → mask.not_before ≡ 0 → length ks ≡ length vs → length ats ≡ length vs
    → count_by (lets_through mask) (take n (joined vs ks ats)) ≡ count_by (has_kind mask) (take n ks)
front_count mask vs ks ats n ever e f =
    ap (count_by (lets_through mask)) (take-joined n vs ks ats)
    ∙ count-joined mask (take n vs) (take n ks) (take n ats) ever (omega (arith, length-take n vs, length-take n ks)) (omega (arith, length-take n vs, length-take n ats))

pub cells_before : (mask : Mask) (vs : List ℕ) (ks : List Kind) (ats : List ℕ) (cells : List End) (n : ℕ) → joined vs ks ats ≡ cells → mask.not_before ≡ 0
    → length ks ≡ length vs → length ats ≡ length vs → count_by (lets_through mask) (take n cells) ≡ count_by (has_kind mask) (take n ks)
cells_before mask vs ks ats cells n view ever e f =
    ap (λ (l : List End). count_by (lets_through mask) (take n l)) (sym view) ∙ front_count mask vs ks ats n ever e f

pub sum_at : (mask : Mask) (sums : List Counts) (ks : List Kind) (b : ℕ) → AreSums sums ks → b < length sums
    → counted mask (get_or sums b none_counted) ≡ count_by (has_kind mask) (take (64 * b) ks)
sum_at mask sums ks b are below = counted_is mask (get_or sums b none_counted) (take (64 * b) ks) (are b below)

pub sum_read : (mask : Mask) (sums : List Counts) (b : ℕ) (x : Counts) → b < length sums → x ≡ get_or sums b x → counted mask x ≡ counted mask (get_or sums b none_counted)
sum_read mask sums b x below is = ap (counted mask) (is ∙ sym (get_or_default sums b none_counted x below))

-- no more before a block than before a place in it
pub sum_below : (mask : Mask) (sums : List Counts) (ks : List Kind) (place : ℕ) → AreSums sums ks → place / 64 < length sums
    → counted mask (get_or sums (place / 64) none_counted) ≤ count_by (has_kind mask) (take place ks)
sum_below mask sums ks place are below =
    let order : 64 * (place / 64) ≤ place = omega arith in
    omega (arith, sum_at mask sums ks (place / 64) are below, count_split (has_kind mask) ks (64 * (place / 64)) place order)
