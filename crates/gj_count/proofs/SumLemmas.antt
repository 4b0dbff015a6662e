-- Sums over seeds: what the ends of a seed add, and that they add once.
use Rattle.std.proofs.Common.{◌≡◌, ℕ, ◌+◌, ◌<◌, ◌≤◌, ◌==◌, ◌∙◌, ◌&&◌, ◌||◌, Bool, true, false, cond, List, [], ◌∷◌, length, take, get_or, fold, zip, sum_by, slice_get, Some, IsTrue, nat_le, refl, sym, ap, arith, ⊎_elim}
use Rattle.std.specs.List.{list_any}
use Rattle.std.proofs.lemmas.Bool.{eq-eqb, ne_eqb, leb-true, and_parts, cases_eq}
use Rattle.std.proofs.lemmas.List.Sums.{fold_more, sum_by_more, AllPass-from_list_all}
use Rattle.std.proofs.lemmas.Option.{get_or_from_slice_get, slice_get_within}
use Rattle.std.proofs.lemmas.Slice.Zip.{get_or-zip, length-zip}
use Rattle.gj_base.specs.Asks.{are_weights}
use Rattle.gj_base.specs.Ends.{ends}
use Rattle.gj_base.specs.Kinds.{same_kind}
use Rattle.gj_base.specs.declared.item.Item.{Item}
use Rattle.gj_base.specs.declared.kind.Kind.{Kind}
use Rattle.gj_base.specs.declared.kind.Kind.TheVariants.{Click, Favorite, Retweet, Reply, Tweet}
use Rattle.gj_base.specs.declared.mask.Mask.{Mask}
use Rattle.gj_base.specs.declared.side.Side.TheVariants.{User}
use Rattle.gj_count.specs.Sums.{with_seed, with_end, with_ends, kind_sum, IsWithin, AreWithin, AreSums}
use Rattle.gj_count.specs.Weights.{met, met_by}
use Rattle.gj_count.specs.declared.seed_sum.SeedSum.{SeedSum}
use Rattle.gj_count.specs.declared.post_sums.PostSums.{PostSums}

-- ---- a seed adds once

-- after an amount is added
abbrev with_amount : SeedSum → ℕ → ℕ → SeedSum
with_amount s turn amount = record { total = s.total + amount; last = turn }

-- after a seed that is met, or not
abbrev fed : ℕ → ℕ → Bool → SeedSum → SeedSum
fed turn amount met s = cond met (with_seed s turn amount) s

with_seed_same : (s : SeedSum) (turn amount : ℕ) → s.last ≡ turn → with_seed s turn amount ≡ s
with_seed_same s turn amount is = ap (λ b. cond b s (with_amount s turn amount)) (eq-eqb s.last turn is)

with_seed_new : (s : SeedSum) (turn amount : ℕ) → (s.last ≡ turn → ⊥) → with_seed s turn amount ≡ with_amount s turn amount
with_seed_new s turn amount apart = ap (λ b. cond b s (with_amount s turn amount)) (ne_eqb s.last turn apart)

with_seed_twice : (s : SeedSum) (turn amount : ℕ) → with_seed (with_seed s turn amount) turn amount ≡ with_seed s turn amount
with_seed_twice s turn amount =
    ⊎_elim
    (λ (is : s.last ≡ turn). ap (λ x. with_seed x turn amount) (with_seed_same s turn amount is))
    (λ (apart : s.last ≡ turn → ⊥).
    let new = with_seed_new s turn amount apart in
    ap (λ x. with_seed x turn amount) new ∙ (with_seed_same (with_amount s turn amount) turn amount refl ∙ sym new))
    (cases_eq s.last turn)

fed_twice : (turn amount : ℕ) (a b : Bool) (s : SeedSum) → fed turn amount b (fed turn amount a s) ≡ fed turn amount (a || b) s
fed_twice turn amount true true s = with_seed_twice s turn amount
fed_twice turn amount true false s = refl
fed_twice turn amount false true s = refl
fed_twice turn amount false false s = refl

-- a sum of which each end adds what passes a test, after all ends
fold_fed : (part : PostSums → SeedSum) (p : ℕ × Kind → Bool) (step : PostSums → ℕ × Kind → PostSums) (turn amount : ℕ)
    → ((s : PostSums) (end : ℕ × Kind) → part (step s end) ≡ fed turn amount (p end) (part s))
    → (found : List (ℕ × Kind)) (s : PostSums) → part (fold step s found) ≡ fed turn amount (list_any p found) (part s)
fold_fed part p step turn amount one [] s = refl
fold_fed part p step turn amount one (end ∷ rest) s =
    fold_fed part p step turn amount one rest (step s end)
    ∙ (ap (fed turn amount (list_any p rest)) (one s end) ∙ fed_twice turn amount (p end) (list_any p rest) (part s))

-- ---- the sums of a post after the ends of a seed

weight_with_ends : (found : List (ℕ × Kind)) (turn weight post : ℕ) (s : PostSums)
    → (with_ends found turn weight post s).weight ≡ fed turn weight (list_any (λ end. end.0 == post) found) s.weight
weight_with_ends found turn weight post s =
    fold_fed (λ s. s.weight) (λ end. end.0 == post) (λ t end. cond (end.0 == post) (with_end turn weight t end.1) t) turn weight
    (λ s end. elim (end.0 == post) as (λ b. (cond b (with_end turn weight s end.1) s).weight ≡ fed turn weight b s.weight) [ true ↦ refl | false ↦ refl ])
    found s

kind_with_end : (turn weight : ℕ) (s : PostSums) (at kind : Kind) → kind_sum (with_end turn weight s at) kind ≡ fed turn 1 (same_kind kind at) (kind_sum s kind)
kind_with_end turn weight s at Click = refl
kind_with_end turn weight s at Favorite = refl
kind_with_end turn weight s at Retweet = refl
kind_with_end turn weight s at Reply = refl
kind_with_end turn weight s at Tweet = refl

kind_with_ends : (found : List (ℕ × Kind)) (turn weight post : ℕ) (s : PostSums) (kind : Kind)
    → kind_sum (with_ends found turn weight post s) kind ≡ fed turn 1 (list_any (λ end. (end.0 == post) && same_kind kind end.1) found) (kind_sum s kind)
kind_with_ends found turn weight post s kind =
    fold_fed (λ s. kind_sum s kind) (λ end. (end.0 == post) && same_kind kind end.1) (λ t end. cond (end.0 == post) (with_end turn weight t end.1) t) turn 1
    (λ s end. elim (end.0 == post) as (λ b. kind_sum (cond b (with_end turn weight s end.1) s) kind ≡ fed turn 1 (b && same_kind kind end.1) (kind_sum s kind))
    [ true ↦ kind_with_end turn weight s end.1 kind | false ↦ refl ])
    found s

-- ---- one more seed

fed_total : (turn amount i : ℕ) (met : Bool) (s : SeedSum) → s.last ≤ i → turn ≡ i + 1 → (fed turn amount met s).total ≡ s.total + cond met amount 0
fed_total turn amount i true s last is = ap (λ x. x.total) (with_seed_new s turn amount (λ e. omega arith))
fed_total turn amount i false s last is = omega arith

kind_within : (turn : ℕ) (s : PostSums) → AreWithin turn s → (kind : Kind) → IsWithin turn (kind_sum s kind)
kind_within turn s within Click = within.click
kind_within turn s within Favorite = within.favorite
kind_within turn s within Retweet = within.retweet
kind_within turn s within Reply = within.reply
kind_within turn s within Tweet = within.tweet

later : (turn : ℕ) (s : SeedSum) → IsWithin turn s → IsWithin (turn + 1) s
later turn s within = record { last = omega arith; total = within.total }

-- what is within a turn is within the next
pub within_next : (turn : ℕ) (s : PostSums) → AreWithin turn s → AreWithin (turn + 1) s
within_next turn s within = record {
  weight = later turn s.weight within.weight;
  click = later turn s.click within.click;
  favorite = later turn s.favorite within.favorite;
  retweet = later turn s.retweet within.retweet;
  reply = later turn s.reply within.reply;
  tweet = later turn s.tweet within.tweet;
}

-- the sums of a post, after one more seed
pub sums_more : (items : List Item) (mask : Mask) (seeds weights : List ℕ) (i post : ℕ) (old new : PostSums)
    → i < length seeds → i < length weights → AreWithin i old → AreSums items mask (take i seeds) (take i (zip seeds weights)) post old
    → new ≡ with_ends (ends items User (get_or seeds i 0) mask) (i + 1) (get_or weights i 0) post old
    → AreSums items mask (take (i + 1) seeds) (take (i + 1) (zip seeds weights)) post new
sums_more items mask seeds weights i post old new one two within sums is =
    let seed = get_or seeds i 0 in
    let weight = get_or weights i 0 in
    let found = ends items User seed mask in
    let pairs = zip seeds weights in
    let value : ℕ × ℕ → ℕ = λ pair. cond (met items mask post pair.0) pair.1 0 in
    let both : i < length pairs = omega (arith, length-zip seeds weights) in
    let pair : get_or pairs i (0, 0) ≡ (seed, weight) = get_or-zip seeds weights i (0, 0) one two in
    record {
      weight =
          ap (λ s. s.weight.total) is
          ∙ (ap (λ s. s.total) (weight_with_ends found (i + 1) weight post old)
          ∙ (fed_total (i + 1) weight i (met items mask post seed) old.weight within.weight.last refl
          ∙ (ap (λ n. n + value (seed, weight)) sums.weight
          ∙ sym (sum_by_more value pairs i (0, 0) both ∙ ap (λ p. sum_by value (take i pairs) + value p) pair))));
      kinds = λ kind.
          let counted : ℕ → Bool = met_by items mask post kind in
          ap (λ s. (kind_sum s kind).total) is
          ∙ (ap (λ s. s.total) (kind_with_ends found (i + 1) weight post old kind)
          ∙ (fed_total (i + 1) 1 i (counted seed) (kind_sum old kind) (kind_within i old within kind).last refl
          ∙ (ap (λ n. n + cond (counted seed) 1 0) (sums.kinds kind)
          ∙ sym (sum_by_more (λ x. cond (counted x) 1 0) seeds i 0 one))));
    }

-- ---- one more end

pub ends_more : (found : List (ℕ × Kind)) (i : ℕ) (end : ℕ × Kind) (turn weight post : ℕ) (from old new : PostSums) → slice_get found i ≡ Some end
    → old ≡ with_ends (take i found) turn weight post from → new ≡ cond (end.0 == post) (with_end turn weight old end.1) old
    → new ≡ with_ends (take (i + 1) found) turn weight post from
ends_more found i end turn weight post from old new is was step =
    let one : PostSums → ℕ × Kind → PostSums = λ t e. cond (e.0 == post) (with_end turn weight t e.1) t in
    step ∙ (ap (λ t. one t end) was
    ∙ sym (fold_more one from found i end (slice_get_within found i end is) ∙ ap (one (with_ends (take i found) turn weight post from)) (get_or_from_slice_get found i end end is)))

-- ---- the ask's weights

pub weight_in_range : (weights : List ℕ) (i : ℕ) → IsTrue (are_weights weights) → i < length weights → get_or weights i 0 ≤ 1000000
weight_in_range weights i are within =
    let weight = get_or weights i 0 in
    let both = AllPass-from_list_all (λ (w : ℕ). nat_le 1 w && nat_le w 1000000) weights are i 0 within in
    leb-true weight 1000000 (and_parts (nat_le 1 weight) (nat_le weight 1000000) both).1
