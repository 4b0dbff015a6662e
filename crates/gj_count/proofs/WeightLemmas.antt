-- The weights of a window are determined by their numbers.
use Rattle.std.proofs.Common.{◌≡◌, ℕ, ◌<◌, ◌≤◌, ◌==◌, ◌∙◌, ◌&&◌, ◌||◌, Bool, true, false, cond, nat_le, List, [], ◌∷◌, All, get_or, map, filter, fold, zip, sum_by, refl, sym, ap, arith, ⊎_elim}
use Rattle.std.specs.List.{list_any}
use Rattle.std.proofs.lemmas.Bool.{eq-eqb, ne_eqb, leb-true, leb-false, and_parts, or_parts, or_from, cond-true, cond-false, cases_eq, cases_Bool}
use Rattle.std.proofs.lemmas.List.Sums.{sum_by-cons}
use Rattle.gj_base.specs.Asks.{CountQuery, Least}
use Rattle.gj_base.specs.Ends.{ends, end_across, is_eligible}
use Rattle.gj_base.specs.Tally.{is_tally, number_at, with_number}
use Rattle.gj_base.specs.declared.item.Item.{Item}
use Rattle.gj_base.specs.declared.kind.Kind.TheVariants.{Click, Favorite, Retweet, Reply, Tweet}
use Rattle.gj_base.specs.declared.mask.Mask.{Mask}
use Rattle.gj_base.specs.declared.side.Side.TheVariants.{User}
use Rattle.gj_base.proofs.TallyLemmas.{number_at-with_number, is_tally-with_number, number_at-pair, same_pairs}
use Rattle.gj_count.specs.Sums.{has_least, weight_in, AreWithin, AreSums, AreWeights}
use Rattle.gj_count.specs.Weights.{met, support, is_supported, weight_of, weights_of}
use Rattle.gj_count.specs.declared.post_sums.PostSums.{PostSums}

-- ---- what is put post by post

-- the pairs, with a number of a post that passes a test
abbrev put_by : (ℕ → Bool) → (ℕ → ℕ) → List (ℕ × ℕ) → ℕ → List (ℕ × ℕ)
put_by shows number pairs post = cond (shows post) (with_number pairs post (number post)) pairs

is_tally-put_by : (shows : ℕ → Bool) (number : ℕ → ℕ) → ((p : ℕ) → shows p ≡ true → 0 < number p)
    → (posts : List ℕ) (pairs : List (ℕ × ℕ)) → is_tally pairs ≡ true → is_tally (fold (put_by shows number) pairs posts) ≡ true
is_tally-put_by shows number above [] pairs is = is
is_tally-put_by shows number above (x ∷ xs) pairs is =
    is_tally-put_by shows number above xs (put_by shows number pairs x)
    (⊎_elim
    (λ (yes : shows x ≡ true). ap is_tally (cond-true (shows x) (with_number pairs x (number x)) pairs yes) ∙ is_tally-with_number pairs x (number x) (above x yes) is)
    (λ (no : shows x ≡ false). ap is_tally (cond-false (shows x) (with_number pairs x (number x)) pairs no) ∙ is)
    (cases_Bool (shows x)))

number_at-put : (shows : ℕ → Bool) (number : ℕ → ℕ) (pairs : List (ℕ × ℕ)) (x p : ℕ)
    → number_at (put_by shows number pairs x) p ≡ cond (x == p) (cond (shows p) (number p) (number_at pairs p)) (number_at pairs p)
number_at-put shows number pairs x p =
    ⊎_elim
    (λ (is : x ≡ p).
    let there : cond (shows x) (number x) (number_at pairs p) ≡ cond (shows p) (number p) (number_at pairs p) = ap (λ y. cond (shows y) (number y) (number_at pairs p)) is in
    let here = number_at-with_number pairs x (number x) p ∙ cond-true (x == p) (number x) (number_at pairs p) (eq-eqb x p is) in
    choose (shows x) (number x) here ∙ (there ∙ sym (cond-true (x == p) (cond (shows p) (number p) (number_at pairs p)) (number_at pairs p) (eq-eqb x p is))))
    (λ (apart : x ≡ p → ⊥).
    let there = number_at-with_number pairs x (number x) p ∙ cond-false (x == p) (number x) (number_at pairs p) (ne_eqb x p apart) in
    choose (shows x) (number_at pairs p) there ∙ (both (shows x) (number_at pairs p)
    ∙ sym (cond-false (x == p) (cond (shows p) (number p) (number_at pairs p)) (number_at pairs p) (ne_eqb x p apart))))
    (cases_eq x p)
  where
    choose : (b : Bool) (n : ℕ) → number_at (with_number pairs x (number x)) p ≡ n
        → number_at (cond b (with_number pairs x (number x)) pairs) p ≡ cond b n (number_at pairs p)
    choose true n is = is
    choose false n is = refl

    both : (b : Bool) (n : ℕ) → cond b n n ≡ n
    both true n = refl
    both false n = refl

number_at-put_by : (shows : ℕ → Bool) (number : ℕ → ℕ) (posts : List ℕ) (pairs : List (ℕ × ℕ)) (p : ℕ)
    → number_at (fold (put_by shows number) pairs posts) p
    ≡ cond (list_any (λ x. x == p) posts) (cond (shows p) (number p) (number_at pairs p)) (number_at pairs p)
number_at-put_by shows number [] pairs p = refl
number_at-put_by shows number (x ∷ xs) pairs p =
    number_at-put_by shows number xs (put_by shows number pairs x) p
    ∙ (ap (λ n. cond (list_any (λ y. y == p) xs) (cond (shows p) (number p) n) n) (number_at-put shows number pairs x p)
    ∙ join (x == p) (list_any (λ y. y == p) xs) (shows p) (number p) (number_at pairs p))
  where
    join : (a b c : Bool) (n m : ℕ)
        → cond b (cond c n (cond a (cond c n m) m)) (cond a (cond c n m) m) ≡ cond (a || b) (cond c n m) m
    join true true true n m = refl
    join true true false n m = refl
    join true false c n m = refl
    join false b c n m = refl

-- ---- a post that no interaction has

unmet : (items : List Item) (mask : Mask) (post user : ℕ) → list_any (λ x. x == post) (map (λ (x : Item). x.post) items) ≡ false → met items mask post user ≡ false
unfolding ends
unmet [] mask post user none = refl
unmet (x ∷ xs) mask post user none =
    let parts = or_parts (x.post == post) (list_any (λ y. y == post) (map (λ (y : Item). y.post) xs)) none in
    let rest : met xs mask post user ≡ false = unmet xs mask post user parts.1 in
    elim (is_eligible User user mask x)
    as (λ b. list_any (λ end. end.0 == post) (map (end_across User) (cond b (x ∷ filter (is_eligible User user mask) xs) (filter (is_eligible User user mask) xs))) ≡ false)
    [ true ↦ or_from (x.post == post) (list_any (λ end. end.0 == post) (map (end_across User) (filter (is_eligible User user mask) xs))) parts.0 rest | false ↦ rest ]

sum_none : {X : Type 0} (f : X → ℕ) → ((x : X) → f x ≡ 0) → (xs : List X) → sum_by f xs ≡ 0
sum_none f none [] = refl
sum_none f none (x ∷ xs) = let one = sum_by-cons f x xs in let here = none x in let rest = sum_none f none xs in omega arith

weight_unmet : (items : List Item) (ask : CountQuery) (post : ℕ) → list_any (λ x. x == post) (map (λ (x : Item). x.post) items) ≡ false → weight_of items ask post ≡ 0
unfolding weight_of
weight_unmet items ask post none =
    sum_none (λ (pair : ℕ × ℕ). cond (met items ask.mask post pair.0) pair.1 0)
    (λ pair. cond-false (met items ask.mask post pair.0) pair.1 0 (unmet items ask.mask post pair.0 none))
    (zip ask.seeds ask.weights)

-- ---- the numbers of a window's weights

any_weight : (supported : Bool) (weight : ℕ) → cond (supported && nat_le 1 weight) weight 0 ≡ cond supported weight 0
any_weight false weight = refl
any_weight true weight =
    ⊎_elim
    (λ (yes : nat_le 1 weight ≡ true). cond-true (nat_le 1 weight) weight 0 yes)
    (λ (no : nat_le 1 weight ≡ false). cond-false (nat_le 1 weight) weight 0 no ∙ (let low = leb-false 1 weight no in let e : 0 ≡ weight = omega arith in e))
    (cases_Bool (nat_le 1 weight))

number_at-weights_of : (items : List Item) (ask : CountQuery) (p : ℕ) → number_at (weights_of items ask) p ≡ cond (is_supported items ask p) (weight_of items ask p) 0
unfolding weights_of
number_at-weights_of items ask p =
    let posts : List ℕ = map (λ (x : Item). x.post) items in
    let weight : ℕ = weight_of items ask p in
    let supported : Bool = is_supported items ask p in
    let any : Bool = list_any (λ x. x == p) posts in
    number_at-put_by (λ q. is_supported items ask q && nat_le 1 (weight_of items ask q)) (weight_of items ask) posts [] p
    ∙ ⊎_elim
    (λ (yes : any ≡ true). cond-true any (cond (supported && nat_le 1 weight) weight 0) 0 yes ∙ any_weight supported weight)
    (λ (no : any ≡ false). cond-false any (cond (supported && nat_le 1 weight) weight 0) 0 no
    ∙ (sym (both supported) ∙ ap (λ w. cond supported w 0) (sym (weight_unmet items ask p no))))
    (cases_Bool any)
  where
    both : (b : Bool) → cond {A = ℕ} b 0 0 ≡ 0
    both true = refl
    both false = refl

is_tally-weights_of : (items : List Item) (ask : CountQuery) → is_tally (weights_of items ask) ≡ true
unfolding weights_of
is_tally-weights_of items ask =
    is_tally-put_by (λ q. is_supported items ask q && nat_le 1 (weight_of items ask q)) (weight_of items ask)
    (λ q yes. let low : 1 ≤ weight_of items ask q = leb-true 1 (weight_of items ask q) (and_parts (is_supported items ask q) (nat_le 1 (weight_of items ask q)) yes).1 in omega arith)
    (map (λ (x : Item). x.post) items) [] refl

-- ---- from the sums

has_least_is : (items : List Item) (ask : CountQuery) (p : ℕ) (s : PostSums) → AreSums items ask.mask ask.seeds (zip ask.seeds ask.weights) p s
    → has_least ask.least s ≡ is_supported items ask p
unfolding is_supported
has_least_is items ask p s are =
    let click : s.click.total ≡ support items ask p Click = are.kinds Click in
    let favorite : s.favorite.total ≡ support items ask p Favorite = are.kinds Favorite in
    let retweet : s.retweet.total ≡ support items ask p Retweet = are.kinds Retweet in
    let reply : s.reply.total ≡ support items ask p Reply = are.kinds Reply in
    let tweet : s.tweet.total ≡ support items ask p Tweet = are.kinds Tweet in
    λ i. nat_le ask.least.click (click i) && (nat_le ask.least.favorite (favorite i) && (nat_le ask.least.retweet (retweet i)
    && (nat_le ask.least.reply (reply i) && nat_le ask.least.tweet (tweet i))))

weight_in_is : (items : List Item) (ask : CountQuery) (p : ℕ) (s : PostSums) → AreSums items ask.mask ask.seeds (zip ask.seeds ask.weights) p s
    → weight_in ask.least s ≡ cond (is_supported items ask p) (weight_of items ask p) 0
unfolding weight_of
weight_in_is items ask p s are =
    ap (λ b. cond b s.weight.total 0) (has_least_is items ask p s are) ∙ ap (λ n. cond (is_supported items ask p) n 0) are.weight

-- the weights of the sums of all posts are the window's
pub weights_from_sums : (items : List Item) (ask : CountQuery) (sums : ℕ → PostSums) (pairs : List (ℕ × ℕ)) → AreWeights ask.least sums pairs
    → ((p : ℕ) → AreSums items ask.mask ask.seeds (zip ask.seeds ask.weights) p (sums p)) → pairs ≡ weights_of items ask
weights_from_sums items ask sums pairs weights are =
    same_pairs pairs (weights_of items ask) weights.tally (is_tally-weights_of items ask)
    (λ p. weights.numbers p ∙ (weight_in_is items ask p (sums p) (are p) ∙ sym (number_at-weights_of items ask p)))

weight_in_range : (least : Least) (s : PostSums) → AreWithin 1000 s → weight_in least s ≤ 1000000000
weight_in_range least s within =
    let last = within.weight.last in
    let total = within.weight.total in
    elim (has_least least s) as (λ b. cond b s.weight.total 0 ≤ 1000000000) [ true ↦ omega arith | false ↦ omega arith ]

pub weights_in_range : (least : Least) (sums : ℕ → PostSums) (pairs : List (ℕ × ℕ)) → AreWeights least sums pairs
    → ((p : ℕ) → AreWithin 1000 (sums p)) → All (λ (pair : ℕ × ℕ). pair.1 ≤ 1000000000) pairs
weights_in_range least sums pairs weights within k d low =
    let post : ℕ = (get_or pairs k d).0 in
    let a = number_at-pair pairs weights.tally k d low in
    let b = weights.numbers post in
    let c = weight_in_range least (sums post) (within post) in
    omega arith
