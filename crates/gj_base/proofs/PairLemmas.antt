-- A tally of pairs that were put into a map.
use Rattle.std.proofs.Common.{◌≡◌, ℕ, suc, ◌<◌, ◌==◌, ◌∙◌, ◌&&◌, Bool, true, false, cond, nat_lt, List, [], ◌∷◌, Option, Some, None, unwrap_or, IfSome, All, fold, refl, sym, ap, arith}
use Rattle.std.specs.declared.cmp.Ordering.TheVariants.{Less, Equal, Greater}
use Rattle.std.specs.Ordering.{nat_cmp, eq_by_cmp, is_eq}
use Rattle.std.specs.Cmp.{eq_by_cmp_equiv, nat_cmp_total}
use Rattle.std.specs.BTreeMap.{is_at}
use Rattle.std.specs.Map.{lookup, keys_of, values_of, update, update_all}
use Rattle.std.specs.List.{list_all, AllByRecursion}
use Rattle.std.specs.List.Sorted.{IsStrictlySortedBy}
use Rattle.std.proofs.lemmas.Bool.{lt-ltb, ltb-true, ne_eqb, and_from}
use Rattle.std.proofs.lemmas.Bool.Decides.{nat_tests}
use Rattle.std.proofs.lemmas.Map.{count_at-update}
use Rattle.std.proofs.lemmas.Map.Keys.{sorted_head, sorted_tail, IsDistinct-from_sorted}
use Rattle.std.proofs.lemmas.Map.Views.{All-values_from_lookup}
use mathlib.Core.Path.{fun_ext}
use Rattle.gj_base.specs.Tally.{is_tally, number_at, with_number, with_pair}
use Rattle.gj_base.proofs.TallyLemmas.{number_at-with_number, is_tally-with_number, same_pairs}

-- the order's test of two posts is that of numbers
same_by : (l e : Bool) → (l ≡ true → e ≡ false) → is_eq (cond l Less (cond e Equal Greater)) ≡ e
same_by true e h = sym (h refl)
same_by false true h = refl
same_by false false h = refl

same_test : (a b : ℕ) → eq_by_cmp nat_cmp a b ≡ (a == b)
same_test a b = same_by (nat_lt a b) (a == b) (λ l. let lt : a < b = ltb-true a b l in ne_eqb a b (λ is. omega arith))

turned : (a b : ℕ) → (a == b) ≡ (b == a)
turned a b = grind (arith, nat_tests)

number_found : (es : List (ℕ × ℕ)) (p : ℕ) → number_at es p ≡ unwrap_or (lookup (is_at (nat_cmp p)) es) 0
number_found es p = ap (λ (test : ℕ → Bool). unwrap_or (lookup test es) 0) (fun_ext (λ k. turned k p ∙ sym (same_test p k)))

-- the number of each post, after the pairs are put
number_put : (xs pairs : List (ℕ × ℕ)) (f : ℕ → Option ℕ) (p : ℕ) → ((q : ℕ) → unwrap_or (f q) 0 ≡ number_at pairs q)
    → unwrap_or (update_all (eq_by_cmp nat_cmp) f xs p) 0 ≡ number_at (fold with_pair pairs xs) p
number_put [] pairs f p same = same p
number_put (x ∷ xs) pairs f p same =
    number_put xs (with_number pairs x.0 x.1) (update (eq_by_cmp nat_cmp) f x.0 (Some x.1)) p
    (λ q. count_at-update (eq_by_cmp nat_cmp) f x.0 x.1 q
    ∙ (ap (λ b. cond b x.1 (unwrap_or (f q) 0)) (same_test x.0 q)
    ∙ (ap (λ n. cond (x.0 == q) x.1 n) (same q) ∙ sym (number_at-with_number pairs x.0 x.1 q))))

is_tally_put : (xs pairs : List (ℕ × ℕ)) → All (λ (x : ℕ × ℕ). 0 < x.1) xs → is_tally pairs ≡ true → is_tally (fold with_pair pairs xs) ≡ true
is_tally_put [] pairs above is = is
is_tally_put (x ∷ xs) pairs above is =
    is_tally_put xs (with_number pairs x.0 x.1) (λ k d l. above (suc k) d (omega arith)) (is_tally-with_number pairs x.0 x.1 (above 0 x (omega arith)) is)

-- what the map has is above 0
above_by : (b : Bool) (o : Option ℕ) (n : ℕ) → 0 < n → IfSome o (λ n. 0 < n) → IfSome (cond b (Some n) o) (λ n. 0 < n)
above_by true o n pos h = pos
above_by false o n pos h = h

above_put : (xs : List (ℕ × ℕ)) (f : ℕ → Option ℕ) → All (λ (x : ℕ × ℕ). 0 < x.1) xs → ((q : ℕ) → IfSome (f q) (λ n. 0 < n))
    → (q : ℕ) → IfSome (update_all (eq_by_cmp nat_cmp) f xs q) (λ n. 0 < n)
above_put [] f above each q = each q
above_put (x ∷ xs) f above each q =
    above_put xs (update (eq_by_cmp nat_cmp) f x.0 (Some x.1)) (λ k d l. above (suc k) d (omega arith))
    (λ p. above_by (eq_by_cmp nat_cmp x.0 p) (f p) x.1 (above 0 x (omega arith)) (each p)) q

less_by : (l e : Bool) → cond l Less (cond e Equal Greater) ≡ Less → l ≡ true
less_by true e h = refl
less_by false true h = absurd (let bad : Equal ≡ Less = h in cc)
less_by false false h = absurd (let bad : Greater ≡ Less = h in cc)

later_sorted : (x : ℕ) (es : List (ℕ × ℕ)) → AllByRecursion (λ y. nat_cmp x y ≡ Less) (keys_of es) → list_all (λ q. nat_lt x q.0) es ≡ true
later_sorted x [] h = refl
later_sorted x (e ∷ es) h =
    and_from (nat_lt x e.0) (list_all (λ q. nat_lt x q.0) es) (less_by (nat_lt x e.0) (x == e.0) h.0) (later_sorted x es h.1)

is_tally_sorted : (es : List (ℕ × ℕ)) → IsStrictlySortedBy nat_cmp (keys_of es) → All (λ n. 0 < n) (values_of es) → is_tally es ≡ true
is_tally_sorted [] s above = refl
is_tally_sorted (e ∷ es) s above =
    and_from (nat_lt 0 e.1) (list_all (λ q. nat_lt e.0 q.0) es && is_tally es) (lt-ltb 0 e.1 (above 0 0 (omega arith)))
    (and_from (list_all (λ q. nat_lt e.0 q.0) es) (is_tally es) (later_sorted e.0 es (sorted_head nat_cmp e.0 (keys_of es) s))
    (is_tally_sorted es (sorted_tail nat_cmp e.0 (keys_of es) s) (λ k d l. above (suc k) d (omega arith))))

-- the map that the pairs make
pub is_tally_found : (es xs : List (ℕ × ℕ)) → ((q : ℕ) → lookup (is_at (nat_cmp q)) es ≡ update_all (eq_by_cmp nat_cmp) (λ _. None) xs q)
    → IsStrictlySortedBy nat_cmp (keys_of es) → All (λ (x : ℕ × ℕ). 0 < x.1) xs → is_tally es ≡ true
is_tally_found es xs found s above =
    is_tally_sorted es s (All-values_from_lookup (eq_by_cmp_equiv nat_cmp_total) (λ n. 0 < n) es (IsDistinct-from_sorted nat_cmp (keys_of es) s)
    (λ q. rw (found q) (above_put xs (λ _. None) above (λ p. tt) q)))

pub pairs_found : (es xs : List (ℕ × ℕ)) → ((q : ℕ) → lookup (is_at (nat_cmp q)) es ≡ update_all (eq_by_cmp nat_cmp) (λ _. None) xs q)
    → IsStrictlySortedBy nat_cmp (keys_of es) → All (λ (x : ℕ × ℕ). 0 < x.1) xs → es ≡ fold with_pair [] xs
pairs_found es xs found s above =
    same_pairs es (fold with_pair [] xs) (is_tally_found es xs found s above) (is_tally_put xs [] above refl)
    (λ p. number_found es p ∙ (ap (λ o. unwrap_or o 0) (found p) ∙ number_put xs [] (λ _. None) p (λ q. refl)))
