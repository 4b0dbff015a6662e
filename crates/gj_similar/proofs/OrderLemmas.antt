-- The first of scores in order, one by one.
use Rattle.std.proofs.Common.{◌≡◌, ℕ, zero, suc, ◌==◌, ◌∙◌, true, false, List, [], ◌∷◌, ◌++◌, length, get_or, take, fold, All, refl, sym, ap, arith}
use Rattle.std.proofs.Math.Seq.{take-append_seam}
use Rattle.std.specs.declared.cmp.Ordering.{Ordering}
use Rattle.std.specs.declared.cmp.Ordering.TheVariants.{Less, Equal, Greater}
use Rattle.std.specs.Ordering.{match_ordering, ordering_reverse, ordering_index, is_lt, is_le}
use Rattle.std.specs.BTreeMap.Comparable.{le_lt_trans}
use Rattle.std.specs.BTreeSet.{insert_key}
use Rattle.gj_similar.specs.Scored.{Scored, score_cmp}
use Rattle.gj_similar.specs.ScoreOrder.{score_total}

take_same : (n : ℕ) (xs : List Scored) → take n (take n xs) ≡ take n xs
take_same zero xs = refl
take_same (suc n) [] = refl
take_same (suc n) (x ∷ xs) = ap (λ (ys : List Scored). x ∷ ys) (take_same n xs)

take_shorter : (n : ℕ) (xs : List Scored) → take n (take (suc n) xs) ≡ take n xs
take_shorter zero xs = refl
take_shorter (suc n) [] = refl
take_shorter (suc n) (x ∷ xs) = ap (λ (ys : List Scored). x ∷ ys) (take_shorter n xs)

-- the first n after one more in front are told by the first n
take_front : (n : ℕ) (x : Scored) (xs : List Scored) → take n (x ∷ take n xs) ≡ take n (x ∷ xs)
take_front zero x xs = refl
take_front (suc n) x xs = ap (λ (ys : List Scored). x ∷ ys) (take_shorter n xs)

insert_by : (n : ℕ) (s x : Scored) (xs : List Scored) (o : Ordering) → take n (insert_key score_cmp (take n xs) s) ≡ take n (insert_key score_cmp xs s)
    → take (suc n) (match_ordering o (s ∷ x ∷ take n xs) (x ∷ take n xs) (x ∷ insert_key score_cmp (take n xs) s))
    ≡ take (suc n) (match_ordering o (s ∷ x ∷ xs) (x ∷ xs) (x ∷ insert_key score_cmp xs s))
insert_by n s x xs Less rest = ap (λ (ys : List Scored). s ∷ ys) (take_front n x xs)
insert_by n s x xs Equal rest = ap (λ (ys : List Scored). x ∷ ys) (take_same n xs)
insert_by n s x xs Greater rest = ap (λ (ys : List Scored). x ∷ ys) rest

-- the first n after an insertion are told by the first n
take-insert : (n : ℕ) (xs : List Scored) (s : Scored) → take n (insert_key score_cmp (take n xs) s) ≡ take n (insert_key score_cmp xs s)
take-insert zero xs s = refl
take-insert (suc n) [] s = refl
take-insert (suc n) (x ∷ xs) s = insert_by n s x xs (score_cmp s x) (take-insert n xs s)

pub take-fold : (n : ℕ) (xs scores : List Scored) → take n (fold (insert_key score_cmp) (take n xs) scores) ≡ take n (fold (insert_key score_cmp) xs scores)
take-fold n xs [] = take_same n xs
take-fold n xs (s ∷ scores) =
    sym (take-fold n (insert_key score_cmp (take n xs) s) scores)
    ∙ (ap (λ (ys : List Scored). take n (fold (insert_key score_cmp) ys scores)) (take-insert n xs s)
    ∙ take-fold n (insert_key score_cmp xs s) scores)

-- ---- a score after all others

pub Greater-index : (o : Ordering) → (ordering_index o == 2) ≡ true → o ≡ Greater
Greater-index Less is = absurd (cc)
Greater-index Equal is = absurd (cc)
Greater-index Greater is = refl

not_before : (o : Ordering) → is_lt o ≡ false → is_le (ordering_reverse o) ≡ true
not_before Less below = absurd (cc)
not_before Equal below = refl
not_before Greater below = refl

after_by : (s last one : Scored) → score_cmp s last ≡ Greater → is_lt (score_cmp last one) ≡ false → score_cmp s one ≡ Greater
after_by s last one after least =
    let at_most : is_le (score_cmp one last) ≡ true = ap is_le (score_total.antisymm one last) ∙ not_before (score_cmp last one) least in
    let below : score_cmp last s ≡ Less = score_total.antisymm last s ∙ ap ordering_reverse after in
    score_total.antisymm s one ∙ ap ordering_reverse (le_lt_trans score_total one last s at_most below)

-- what comes after the greatest comes after all
pub all_after : (s last : Scored) (xs : List Scored) → score_cmp s last ≡ Greater → All (λ one. is_lt (score_cmp last one) ≡ false) xs
    → All (λ one. score_cmp s one ≡ Greater) xs
all_after s last xs after greatest = λ k d lt. after_by s last (get_or xs k d) after (greatest k d lt)

insert_after : (xs : List Scored) (s : Scored) → All (λ one. score_cmp s one ≡ Greater) xs → insert_key score_cmp xs s ≡ xs ++ s ∷ []
insert_after [] s after = refl
insert_after (x ∷ xs) s after =
    ap (λ o. match_ordering o (s ∷ x ∷ xs) (x ∷ xs) (x ∷ insert_key score_cmp xs s)) (after 0 x (omega arith))
    ∙ ap (λ (ys : List Scored). x ∷ ys) (insert_after xs s (λ k d lt. after (suc k) d (omega arith)))

-- the first n of n scores and one that comes after them are those
pub take-insert_after : (n : ℕ) (xs : List Scored) (s : Scored) → length xs ≡ n → All (λ one. score_cmp s one ≡ Greater) xs
    → take n (insert_key score_cmp xs s) ≡ xs
take-insert_after n xs s few after =
    ap (λ m. take m (insert_key score_cmp xs s)) (sym few) ∙ (ap (take (length xs)) (insert_after xs s after) ∙ take-append_seam xs (s ∷ []))
