-- Counts of kinds.
use Rattle.std.proofs.Common.{◌≡◌, ℕ, ◌+◌, ◌<◌, ◌≤◌, ◌∙◌, Bool, true, false, cond, List, [], ◌∷◌, ◌++◌, length, map, count_by, refl, arith, sym, ap, inl, inr, zero-add}
use Rattle.std.proofs.lemmas.Bool.{cases_Bool, eq-eqb}
use Rattle.std.proofs.Math.Dec.{leb-zero}
use Rattle.std.proofs.lemmas.List.{map-append}
use Rattle.std.proofs.lemmas.List.Sums.{sum_by-append, sum_by-cons, count_by-le-length}
use Rattle.gj_base.specs.declared.item.Item.{Item}
use Rattle.gj_base.specs.declared.kind.Kind.{Kind}
use Rattle.gj_base.specs.declared.kind.Kind.TheVariants.{Click, Favorite, Retweet, Reply, Tweet}
use Rattle.gj_base.specs.declared.mask.Mask.{Mask}
use Rattle.gj_base.specs.Ends.{passes}
use Rattle.gj_base.specs.Kinds.{has_kind, same_kind, kind_number}
use Rattle.gj_base.specs.Numbered.{named_by}
use Rattle.gj_compact.specs.declared.edge.Edge.{Edge}
use Rattle.gj_compact.specs.Turns.{plain}
use Rattle.gj_compact.specs.Counting.{kind_count, counted}
use Rattle.gj_compact.specs.declared.counts.Counts.{Counts}
use Rattle.gj_directory.specs.Counting.{AreCounts}
use Rattle.gj_directory.specs.Sides.{items_of}

-- one more of a kind among the counts of all
one_kind : (mask : Mask) (kind : Kind) (a b c d e : ℕ)
    → cond (has_kind mask Click) (cond (same_kind Click kind) 1 0 + a) 0
    + cond (has_kind mask Favorite) (cond (same_kind Favorite kind) 1 0 + b) 0
    + cond (has_kind mask Retweet) (cond (same_kind Retweet kind) 1 0 + c) 0
    + cond (has_kind mask Reply) (cond (same_kind Reply kind) 1 0 + d) 0
    + cond (has_kind mask Tweet) (cond (same_kind Tweet kind) 1 0 + e) 0
    ≡ cond (has_kind mask kind) 1 0
    + (cond (has_kind mask Click) a 0 + cond (has_kind mask Favorite) b 0 + cond (has_kind mask Retweet) c 0 + cond (has_kind mask Reply) d 0 + cond (has_kind mask Tweet) e 0)
one_kind mask Click a b c d e = elim (cases_Bool (has_kind mask Click)) [ inl h ↦ simp (h, zero-add) (omega arith) | inr h ↦ simp (h, zero-add) (omega arith) ]
one_kind mask Favorite a b c d e = elim (cases_Bool (has_kind mask Favorite)) [ inl h ↦ simp (h, zero-add) (omega arith) | inr h ↦ simp (h, zero-add) (omega arith) ]
one_kind mask Retweet a b c d e = elim (cases_Bool (has_kind mask Retweet)) [ inl h ↦ simp (h, zero-add) (omega arith) | inr h ↦ simp (h, zero-add) (omega arith) ]
one_kind mask Reply a b c d e = elim (cases_Bool (has_kind mask Reply)) [ inl h ↦ simp (h, zero-add) (omega arith) | inr h ↦ simp (h, zero-add) (omega arith) ]
one_kind mask Tweet a b c d e = elim (cases_Bool (has_kind mask Tweet)) [ inl h ↦ simp (h, zero-add) (omega arith) | inr h ↦ simp (h, zero-add) (omega arith) ]

cond_none : (b : Bool) → ◌≡◌ {A = ℕ} (cond b 0 0) 0
cond_none true = refl
cond_none false = refl

-- the interactions of a kind
abbrev of_kind : Kind → List Edge → ℕ
of_kind kind edges = count_by (λ (edge : Edge). same_kind kind edge.kind) edges

of_cons : (f : Edge → Bool) (x : Edge) (xs : List Edge) → count_by f (x ∷ xs) ≡ cond (f x) 1 0 + count_by f xs
of_cons f x xs = sum_by-cons (λ (y : Edge). cond (f y) 1 0) x xs

kind_cons : (kind : Kind) (x : Edge) (xs : List Edge) → of_kind kind (x ∷ xs) ≡ cond (same_kind kind x.kind) 1 0 + of_kind kind xs
kind_cons kind x xs = of_cons (λ (edge : Edge). same_kind kind edge.kind) x xs

-- the counts of the mask's kinds among some interactions
abbrev all_of : Mask → List Edge → ℕ
all_of mask edges =
    cond (has_kind mask Click) (of_kind Click edges) 0
    + cond (has_kind mask Favorite) (of_kind Favorite edges) 0
    + cond (has_kind mask Retweet) (of_kind Retweet edges) 0
    + cond (has_kind mask Reply) (of_kind Reply edges) 0
    + cond (has_kind mask Tweet) (of_kind Tweet edges) 0

all_count : (mask : Mask) (edges : List Edge) → all_of mask edges ≡ count_by (λ (edge : Edge). has_kind mask edge.kind) edges
all_count mask [] = omega (arith, cond_none (has_kind mask Click), cond_none (has_kind mask Favorite), cond_none (has_kind mask Retweet), cond_none (has_kind mask Reply), cond_none (has_kind mask Tweet))
all_count mask (x ∷ xs) =
    let rest = all_count mask xs in
    rw (kind_cons Click x xs, kind_cons Favorite x xs, kind_cons Retweet x xs, kind_cons Reply x xs, kind_cons Tweet x xs, of_cons (λ (edge : Edge). has_kind mask edge.kind) x xs)
    (one_kind mask x.kind _ _ _ _ _ ∙ ap (λ (n : ℕ). cond (has_kind mask x.kind) 1 0 + n) rest)

-- a mask over all moments looks at the kinds alone
ever : (mask : Mask) (edges : List Edge) → mask.not_before ≡ 0 → count_by (λ (edge : Edge). has_kind mask edge.kind) edges ≡ count_by (passes mask) (map plain edges)
ever mask [] all = refl
ever mask (x ∷ xs) all =
    let rest = ever mask xs all in
    let left = of_cons (λ (edge : Edge). has_kind mask edge.kind) x xs in
    let right = sum_by-cons (λ (y : Item). cond (passes mask y) 1 0) (plain x) (map plain xs) in
    let here : ◌≡◌ {A = ℕ} (cond (passes mask (plain x)) 1 0) (cond (has_kind mask x.kind) 1 0) =
    let any = leb-zero x.at in
    elim (cases_Bool (has_kind mask x.kind)) [ inl h ↦ rw (all, h, any) refl | inr h ↦ rw h refl ] in
    omega (arith, rest, left, right, here)

-- the names of vertices do not matter
pub passes-named : (mask : Mask) (users posts : List ℕ) (edges : List Edge) → count_by (passes mask) (items_of users posts edges) ≡ count_by (passes mask) (map plain edges)
passes-named mask users posts [] = refl
passes-named mask users posts (x ∷ xs) =
    let rest = passes-named mask users posts xs in
    let left = sum_by-cons (λ (y : Item). cond (passes mask y) 1 0) (named_by users posts (plain x)) (items_of users posts xs) in
    let right = sum_by-cons (λ (y : Item). cond (passes mask y) 1 0) (plain x) (map plain xs) in
    omega (arith, rest, left, right)

pub counted_is : (mask : Mask) (counts : Counts) (edges : List Edge) → mask.not_before ≡ 0 → AreCounts counts edges → counted mask counts ≡ count_by (passes mask) (map plain edges)
counted_is mask counts edges all are =
    let a = are Click in
    let b = are Favorite in
    let c = are Retweet in
    let d = are Reply in
    let e = are Tweet in
    rw (a, b, c, d, e) (all_count mask edges) ∙ ever mask edges all

pub counts_few : (counts : Counts) (edges : List Edge) (other : Kind) → AreCounts counts edges → kind_count counts other ≤ length edges
counts_few counts edges other are = omega (arith, are other, count_by-le-length (λ (edge : Edge). same_kind other edge.kind) edges)

-- one more
pub counts_more : (counts counts' : Counts) (edges edges' : List Edge) (x : Edge) → AreCounts counts edges → edges' ≡ edges ++ x ∷ []
    → ((other : Kind) → kind_count counts' other ≡ kind_count counts other + cond (same_kind other x.kind) 1 0) → AreCounts counts' edges'
counts_more counts counts' edges edges' x are is more = λ other.
    let f = λ (edge : Edge). cond {A = ℕ} (same_kind other edge.kind) 1 0 in
    let here = ap (of_kind other) is in
    let both = sum_by-append f edges (x ∷ []) in
    let last = kind_cons other x [] in
    omega (arith, more other, are other, here, both, last)

-- the first one is counted
pub counts_some : (counts : Counts) (x : Edge) (xs edges : List Edge) → AreCounts counts edges → edges ≡ x ∷ xs → 0 < kind_count counts x.kind
counts_some counts x xs edges are is =
    let same : same_kind x.kind x.kind ≡ true = eq-eqb (kind_number x.kind) (kind_number x.kind) refl in
    let one : ◌≡◌ {A = ℕ} (cond (same_kind x.kind x.kind) 1 0) 1 = ap {B = ℕ} (λ (b : Bool). cond b 1 0) same in
    omega (arith, are x.kind, ap (of_kind x.kind) is, kind_cons x.kind x xs, one)

-- the kinds are those of the interactions that are shown
kinds-named : (users posts : List ℕ) (kind : Kind) (edges : List Edge) → of_kind kind edges ≡ count_by (λ (x : Item). same_kind kind x.kind) (items_of users posts edges)
kinds-named users posts kind [] = refl
kinds-named users posts kind (x ∷ xs) =
    let rest = kinds-named users posts kind xs in
    let right = sum_by-cons (λ (y : Item). cond (same_kind kind y.kind) 1 0) (named_by users posts (plain x)) (items_of users posts xs) in
    omega (arith, rest, kind_cons kind x xs, right)

pub counts_same : (counts : Counts) (users posts users' posts' : List ℕ) (edges edges' : List Edge) → AreCounts counts edges → items_of users' posts' edges' ≡ items_of users posts edges → AreCounts counts edges'
counts_same counts users posts users' posts' edges edges' are same = λ other.
    are other ∙ (kinds-named users posts other edges ∙ (ap (count_by (λ (x : Item). same_kind other x.kind)) (sym same) ∙ sym (kinds-named users' posts' other edges')))

pub counts_none : (edges : List Edge) → edges ≡ [] → AreCounts (record { click = 0; favorite = 0; retweet = 0; reply = 0; tweet = 0 }) edges
counts_none edges none = λ kind. no_count kind ∙ sym (ap (of_kind kind) none)
  where
    no_count : (kind : Kind) → kind_count (record { click = 0; favorite = 0; retweet = 0; reply = 0; tweet = 0 }) kind ≡ 0
    no_count Click = refl
    no_count Favorite = refl
    no_count Retweet = refl
    no_count Reply = refl
    no_count Tweet = refl

pub passes-append : (mask : Mask) (xs ys : List Edge) → count_by (passes mask) (map plain (xs ++ ys)) ≡ count_by (passes mask) (map plain xs) + count_by (passes mask) (map plain ys)
passes-append mask xs ys =
    ap (count_by (passes mask)) (map-append plain xs ys) ∙ sum_by-append (λ (y : Item). cond (passes mask y) 1 0) (map plain xs) (map plain ys)
