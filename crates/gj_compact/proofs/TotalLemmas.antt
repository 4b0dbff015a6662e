-- Counts of kinds over all interactions.
use Rattle.std.proofs.Common.{◌≡◌, ℕ, ◌+◌, ◌<◌, ◌∙◌, Bool, cond, List, [], ◌∷◌, length, map, take, get_or, count_by, refl, arith, sym, ap}
use Rattle.std.proofs.lemmas.List.{length-map, get_or-map}
use Rattle.std.proofs.lemmas.List.Sums.{sum_by-cons}
use Rattle.gj_base.specs.declared.item.Item.{Item}
use Rattle.gj_base.specs.declared.kind.Kind.{Kind}
use Rattle.gj_base.specs.declared.kind.Kind.TheVariants.{Click, Favorite, Retweet, Reply, Tweet}
use Rattle.gj_base.specs.declared.mask.Mask.{Mask}
use Rattle.gj_base.specs.Ends.{passes}
use Rattle.gj_base.specs.Kinds.{has_kind, same_kind}
use Rattle.gj_compact.specs.declared.counts.Counts.{Counts}
use Rattle.gj_compact.specs.declared.edge.Edge.{Edge}
use Rattle.gj_compact.specs.Counting.{kind_count, none_counted}
use Rattle.gj_compact.specs.Sums.{AreCounts, edge_kind}
use Rattle.gj_compact.specs.Turns.{plain}
use Rattle.gj_compact.proofs.SpanLemmas.{lets_since}
use Rattle.gj_compact.proofs.SumLemmas.{counts_more}

no_kinds : (kind : Kind) → kind_count none_counted kind ≡ 0
no_kinds Click = refl
no_kinds Favorite = refl
no_kinds Retweet = refl
no_kinds Reply = refl
no_kinds Tweet = refl

pub none_are : (edges : List Edge) → edges ≡ [] → AreCounts none_counted (map edge_kind edges)
none_are edges none = λ kind. no_kinds kind ∙ sym (ap (λ (l : List Edge). count_by (same_kind kind) (map edge_kind l)) none)

pub counts_next : (counts counts' : Counts) (edges : List Edge) (i : ℕ) (edge : Edge) → AreCounts counts (take i (map edge_kind edges)) → i < length edges → edge ≡ get_or edges i edge
    → ((other : Kind) → kind_count counts' other ≡ kind_count counts other + cond (same_kind other edge.kind) 1 0) → AreCounts counts' (take (i + 1) (map edge_kind edges))
counts_next counts counts' edges i edge are below is more =
    counts_more counts counts' (map edge_kind edges) i edge.kind are (omega (arith, length-map edges edge_kind))
    (ap edge_kind is ∙ sym (get_or-map edge_kind edges i edge edge.kind below)) more

pub kinds_pass : (mask : Mask) (edges : List Edge) → mask.not_before ≡ 0 → count_by (passes mask) (map plain edges) ≡ count_by (has_kind mask) (map edge_kind edges)
kinds_pass mask [] ever = refl
kinds_pass mask (edge ∷ edges) ever =
    let rest = kinds_pass mask edges ever in
    let here = ap {B = ℕ} (λ (b : Bool). cond b 1 0) (lets_since mask 0 edge.kind edge.at (omega arith)) in
    let left = sum_by-cons (λ (x : Item). cond (passes mask x) 1 0) (plain edge) (map plain edges) in
    let right = sum_by-cons (λ (x : Kind). cond (has_kind mask x) 1 0) edge.kind (map edge_kind edges) in
    omega (arith, rest, here, left, right)
