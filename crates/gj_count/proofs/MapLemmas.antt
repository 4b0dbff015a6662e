-- The weights that are put from a map, entry by entry.
use Rattle.std.proofs.Common.{◌≡◌, ℕ, ◌+◌, ◌≤◌, ◌==◌, ◌∙◌, true, false, cond, nat_eq, nat_lt, List, ◌∷◌, Some, unwrap_or, refl, sym, ap, arith, ⊎_elim}
use Rattle.std.specs.Cmp.{nat_eq_equiv}
use Rattle.std.specs.List.{IsDistinct}
use Rattle.std.specs.Map.{lookup, keys_of}
use Rattle.std.proofs.lemmas.Bool.{eq-eqb, ne_eqb, ltb-true, ltb-false, cond-true, cond-false, cases_eq, cases_Bool}
use Rattle.std.proofs.lemmas.Map.{lookup-none}
use Rattle.std.proofs.lemmas.Map.Entries.{none_past_head}
use Rattle.gj_base.specs.Asks.{Least}
use Rattle.gj_base.specs.Tally.{is_tally, number_at, with_number}
use Rattle.gj_base.proofs.TallyLemmas.{number_at-with_number, is_tally-with_number}
use Rattle.gj_count.specs.Sums.{no_sums, has_least, weight_in}
use Rattle.gj_count.specs.declared.post_sums.PostSums.{PostSums}

-- the weight that the entries still to come have for a post
abbrev pub weight_to_come : Least → List (ℕ × PostSums) → ℕ → ℕ
weight_to_come least rest p = weight_in least (unwrap_or (lookup (nat_eq p) rest) no_sums)

-- the weights, and a post's weight where it has any
abbrev pub put_if : List (ℕ × ℕ) → ℕ → ℕ → List (ℕ × ℕ)
put_if pairs post weight = cond (nat_lt 0 weight) (with_number pairs post weight) pairs

pub is_tally-put_if : (pairs : List (ℕ × ℕ)) (post weight : ℕ) → is_tally pairs ≡ true → is_tally (put_if pairs post weight) ≡ true
is_tally-put_if pairs post weight is =
    ⊎_elim
    (λ (yes : nat_lt 0 weight ≡ true). ap is_tally (cond-true (nat_lt 0 weight) (with_number pairs post weight) pairs yes)
    ∙ is_tally-with_number pairs post weight (ltb-true 0 weight yes) is)
    (λ (no : nat_lt 0 weight ≡ false). ap is_tally (cond-false (nat_lt 0 weight) (with_number pairs post weight) pairs no) ∙ is)
    (cases_Bool (nat_lt 0 weight))

number_at-put_here : (pairs : List (ℕ × ℕ)) (post weight p : ℕ) → post ≡ p → number_at pairs p ≡ 0 → number_at (put_if pairs post weight) p ≡ weight
number_at-put_here pairs post weight p is none =
    ⊎_elim
    (λ (yes : nat_lt 0 weight ≡ true). ap (λ l. number_at l p) (cond-true (nat_lt 0 weight) (with_number pairs post weight) pairs yes)
    ∙ (number_at-with_number pairs post weight p ∙ cond-true (post == p) weight (number_at pairs p) (eq-eqb post p is)))
    (λ (no : nat_lt 0 weight ≡ false).
    let zero : weight ≤ 0 = ltb-false 0 weight no in
    ap (λ l. number_at l p) (cond-false (nat_lt 0 weight) (with_number pairs post weight) pairs no) ∙ (none ∙ (let e : 0 ≡ weight = omega arith in e)))
    (cases_Bool (nat_lt 0 weight))

number_at-put_apart : (pairs : List (ℕ × ℕ)) (post weight p : ℕ) → (post ≡ p → ⊥) → number_at (put_if pairs post weight) p ≡ number_at pairs p
number_at-put_apart pairs post weight p apart =
    ⊎_elim
    (λ (yes : nat_lt 0 weight ≡ true). ap (λ l. number_at l p) (cond-true (nat_lt 0 weight) (with_number pairs post weight) pairs yes)
    ∙ (number_at-with_number pairs post weight p ∙ cond-false (post == p) weight (number_at pairs p) (ne_eqb post p apart)))
    (λ (no : nat_lt 0 weight ≡ false). ap (λ l. number_at l p) (cond-false (nat_lt 0 weight) (with_number pairs post weight) pairs no))
    (cases_Bool (nat_lt 0 weight))

-- no seed, no weight
pub weight_in_none : (least : Least) → weight_in least no_sums ≡ 0
weight_in_none least = elim (has_least least no_sums) as (λ b. cond {A = ℕ} b 0 0 ≡ 0) [ true ↦ refl | false ↦ refl ]

to_come_here : (least : Least) (k : ℕ) (s : PostSums) (rest : List (ℕ × PostSums)) (p : ℕ) → k ≡ p → weight_to_come least ((k, s) ∷ rest) p ≡ weight_in least s
to_come_here least k s rest p is = ap (λ b. weight_in least (unwrap_or (cond b (Some s) (lookup (nat_eq p) rest)) no_sums)) (eq-eqb p k (sym is))

to_come_apart : (least : Least) (k : ℕ) (s : PostSums) (rest : List (ℕ × PostSums)) (p : ℕ) → (k ≡ p → ⊥)
    → weight_to_come least ((k, s) ∷ rest) p ≡ weight_to_come least rest p
to_come_apart least k s rest p apart = ap (λ b. weight_in least (unwrap_or (cond b (Some s) (lookup (nat_eq p) rest)) no_sums)) (ne_eqb p k (λ e. apart (sym e)))

to_come_past : (least : Least) (k : ℕ) (s : PostSums) (rest : List (ℕ × PostSums)) (p : ℕ) → k ≡ p → IsDistinct nat_eq (keys_of ((k, s) ∷ rest))
    → weight_to_come least rest p ≡ 0
to_come_past least k s rest p is distinct =
    ap (λ o. weight_in least (unwrap_or o no_sums)) (lookup-none (nat_eq p) rest (none_past_head nat_eq_equiv p (k, s) rest distinct (eq-eqb p k (sym is))))
    ∙ weight_in_none least

-- the numbers so far and the weights to come, after one more entry
pub put_next : (least : Least) (pairs : List (ℕ × ℕ)) (k : ℕ) (s : PostSums) (rest : List (ℕ × PostSums)) (all : ℕ → ℕ)
    → IsDistinct nat_eq (keys_of ((k, s) ∷ rest)) → all k ≡ weight_in least s
    → ((p : ℕ) → number_at pairs p + weight_to_come least ((k, s) ∷ rest) p ≡ all p)
    → (p : ℕ) → number_at (put_if pairs k (weight_in least s)) p + weight_to_come least rest p ≡ all p
put_next least pairs k s rest all distinct whole so_far p =
    let weight : ℕ = weight_in least s in
    let was : number_at pairs p + weight_to_come least ((k, s) ∷ rest) p ≡ all p = so_far p in
    ⊎_elim
    (λ (is : k ≡ p).
    let a : weight_to_come least ((k, s) ∷ rest) p ≡ weight = to_come_here least k s rest p is in
    let b : weight_to_come least rest p ≡ 0 = to_come_past least k s rest p is distinct in
    let c : all p ≡ weight = ap all (sym is) ∙ whole in
    let none : number_at pairs p ≡ 0 = omega arith in
    let d : number_at (put_if pairs k weight) p ≡ weight = number_at-put_here pairs k weight p is none in
    let g : number_at (put_if pairs k weight) p + weight_to_come least rest p ≡ all p = omega arith in g)
    (λ (apart : k ≡ p → ⊥).
    let a : weight_to_come least ((k, s) ∷ rest) p ≡ weight_to_come least rest p = to_come_apart least k s rest p apart in
    let d : number_at (put_if pairs k weight) p ≡ number_at pairs p = number_at-put_apart pairs k weight p apart in
    let g : number_at (put_if pairs k weight) p + weight_to_come least rest p ≡ all p = omega arith in g)
    (cases_eq k p)
