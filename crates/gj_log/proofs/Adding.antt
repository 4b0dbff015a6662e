-- The steps that make room, that add a lot and that confirm keep the rule.
use Rattle.std.proofs.Common.{◌≡◌, ◌≢◌, ℕ, zero, suc, ◌+◌, ◌<◌, ◌≤◌, ◌==◌, Bool, true, false, List, [], ◌∷◌, ◌++◌, length, replicate, slice_index_or, slice_set, refl, ap, sym, subst, ◌∙◌, arith, inl, length-append, append_assoc, None}
use Rattle.std.proofs.lemmas.List.{append-nil}
use Rattle.std.proofs.lemmas.Bool.Decides.{nat_tests}
use mathlib.Core.List.{IsPrefix}
use prog.Atomic.{either}
use Rattle.logbook.specs.Pages.{Cell, cell, keeps, gives, adds, no_nib, nib, may_make, step, Moves, Goes}
use Rattle.gj_base.specs.declared.item.Entry.{Entry}
use Rattle.gj_log.specs.Rules.{IsKept, Reserves, Adds, Confirms, cells_of, next_nib}
use Rattle.gj_log.proofs.Fronts.{prefix_whole, prefix_length}

abbrev pub shown : List (ℕ × List Entry) → List (ℕ × List Entry)
shown log = []

abbrev pub moved : List (ℕ × List Entry) → List (ℕ × List Entry) → ℕ → Type 0
moved xs ys n = Unit {0}

abbrev home : Cell
home = (0, true)

abbrev away : Cell
away = (0, false)

abbrev row : ℕ → ℕ → List Cell
row n m = replicate n home ++ replicate m away

replicate_length : (m : ℕ) (x : Cell) → length (replicate m x) ≡ m
replicate_length zero x = refl
replicate_length (suc m) x = ap suc (replicate_length m x)

row_length : (n m : ℕ) → length (row n m) ≡ n + m
row_length n m = omega (arith, length-append (replicate n home) (replicate m away), replicate_length n home, replicate_length m away)

-- one more cell that is away
replicate_snoc : (m : ℕ) (x : Cell) → replicate m x ++ x ∷ [] ≡ x ∷ replicate m x
replicate_snoc zero x = refl
replicate_snoc (suc m) x = ap (λ w. x ∷ w) (replicate_snoc m x)

row_more : (n m : ℕ) → row n m ++ away ∷ [] ≡ row n (suc m)
row_more n m = append_assoc (replicate n home) (replicate m away) (away ∷ []) ∙ ap (λ w. replicate n home ++ w) (replicate_snoc m away)

-- a cell that is away stands behind those at home
away_place : (n m i : ℕ) → (slice_index_or (row n m) i away).1 ≡ false → n ≤ i
away_place zero m i e = omega arith
away_place (suc n) m zero e = absurd (cc e)
away_place (suc n) m (suc i) e = let le : n ≤ i = away_place n m i e in omega arith

-- the first that is away comes home
row_home : (n m : ℕ) → slice_set (row n (suc m)) n home ≡ row (suc n) m
row_home zero m = refl
row_home (suc n) m = ap (λ w. home ∷ w) (row_home n m)

same_by : (n : ℕ) (b : Bool) → (n == 0) ≡ b → either (n == 0) 0 n ≡ n
same_by n true is =
    let z : n ≡ 0 = grind (arith, nat_tests) in
    rw is (sym z)
same_by n false is = rw is refl

same_word : (n : ℕ) → either (n == 0) 0 n ≡ n
same_word n = same_by n (n == 0) refl

cells_are : (a b : ℕ) (xs ys : List Cell) → a ≡ b → xs ≡ ys → (a, true) ∷ (0, true) ∷ xs ≡ (b, true) ∷ (0, true) ∷ ys
cells_are a b xs ys p q = cc (p, q)

-- with no more than was added
nil_kept : (cs : List Cell) (log : List (ℕ × List Entry)) → IsKept cs log → IsKept cs (log ++ [])
nil_kept cs log k = subst (IsKept cs) (sym (append-nil log)) k

pub reserves_goes : (log v : List (ℕ × List Entry)) (m old : ℕ) → (b : Bool) → (length log + m == old) ≡ b
    → Goes IsKept shown moved 0 (v, (no_nib, None)) (λ n. either (n == old) (old + 1) n) (Reserves (step 0 old (old + 1) (0, [])) (v, (no_nib, None))) (cells_of (length log) m) log
reserves_goes log v m old true is =
    let n : ℕ = length log in
    let here : n + m ≡ old = grind (arith, nat_tests) in
    let up : either (n + m == old) (old + 1) (n + m) ≡ n + suc m = rw is (omega arith) in
    let long : length (row n m) ≡ old = row_length n m ∙ here in (
      adds,
      [],
      None,
      tt,
      nil_kept _ log (record { waiting = suc m; words = cells_are _ _ _ _ up (row_more n m) }),
      inl (refl, refl),
      (λ h. ap (λ (k : ℕ). nib may_make (suc (suc k)) 0) long),
    )
reserves_goes log v m old false is =
    let n : ℕ = length log in
    let apart : n + m ≢ old = grind (arith, nat_tests) in
    let up : either (n + m == old) (old + 1) (n + m) ≡ n + m = rw is refl in (
      keeps,
      [],
      None,
      tt,
      nil_kept _ log (record { waiting = m; words = cells_are _ _ _ _ up refl }),
      inl (refl, refl),
      (λ h. absurd (apart h)),
    )

-- whatever the book is, the exchange makes room behind as many cells as expected, or finds another number
pub reserves_moves : (v : List (ℕ × List Entry)) (old : ℕ)
    → Moves IsKept shown moved 0 (v, (no_nib, None)) (λ n. either (n == old) (old + 1) n) (Reserves (step 0 old (old + 1) (0, [])) (v, (no_nib, None)))
reserves_moves v old cs log kept pre off =
    let P : List Cell → Type 0 = λ c. (0 < length c) × ((cell c 0).1 ≡ true) × Goes IsKept shown moved 0 (v, (no_nib, None)) (λ n. either (n == old) (old + 1) n) (Reserves (step 0 old (old + 1) (0, [])) (v, (no_nib, None))) c log in
    subst P (sym kept.words) (omega arith, refl, reserves_goes log v kept.waiting old (length log + kept.waiting == old) refl)

pub adds_goes : (log v : List (ℕ × List Entry)) (e : ℕ × List Entry) (n m : ℕ) → length v ≡ n → n ≡ length log → IsPrefix v log → n < length log + m
    → Goes IsKept shown moved 0 (v, (next_nib n, None)) (λ x. either (x == 0) 0 x) (Adds (step 0 0 0 e) (v, (next_nib n, None))) (cells_of (length log) m) log
adds_goes log v e n zero len is pre some = absurd (omega arith)
adds_goes log v e n (suc k) len is pre some =
    let same : v ≡ log = prefix_whole v log pre (omega arith) in
    let more : length (log ++ e ∷ []) ≡ suc (length log) = omega (arith, length-append log (e ∷ [])) in
    let head : either (length log + suc k == 0) 0 (length log + suc k) ≡ length (log ++ e ∷ []) + k = same_word (length log + suc k) ∙ omega (arith, more) in
    let at : slice_set (row (length log) (suc k)) n home ≡ row (suc (length log)) k = ap (λ i. slice_set (row (length log) (suc k)) i home) is ∙ row_home (length log) k in
    let all : slice_set (row (length log) (suc k)) n home ≡ row (length (log ++ e ∷ [])) k = at ∙ ap (λ i. row i k) (sym more) in (
      gives,
      e ∷ [],
      None,
      refl,
      record { waiting = k; words = cells_are _ _ _ _ head all },
      inl (refl, refl),
      ap (λ w. w ++ e ∷ []) (sym same),
    )

-- whatever the book is, the right to the next cell adds the batch to all that was seen
pub adds_moves : (v : List (ℕ × List Entry)) (e : ℕ × List Entry) (n : ℕ) → length v ≡ n
    → Moves IsKept shown moved 0 (v, (next_nib n, None)) (λ x. either (x == 0) 0 x) (Adds (step 0 0 0 e) (v, (next_nib n, None)))
adds_moves v e n len cs log kept pre off =
    let P : List Cell → Type 0 = λ c. (0 < length c) × ((cell c 0).1 ≡ true) × Goes IsKept shown moved 0 (v, (next_nib n, None)) (λ x. either (x == 0) 0 x) (Adds (step 0 0 0 e) (v, (next_nib n, None))) c log in
    let Q : List Cell → Type 0 = λ c. (suc (suc n) < length c) × ((cell c (suc (suc n))).1 ≡ false) in
    let there : Q (cells_of (length log) kept.waiting) = subst Q kept.words (off refl) in
    let low : length v ≤ length log = prefix_length v log pre in
    let high : length log ≤ n = away_place (length log) kept.waiting n there.1 in
    let size : length (row (length log) kept.waiting) ≡ length log + kept.waiting = row_length (length log) kept.waiting in
    let room : n < length log + kept.waiting = omega (arith, there.0) in
    subst P (sym kept.words) (omega arith, refl, adds_goes log v e n kept.waiting len (omega arith) pre room)

confirms_goes : (log v : List (ℕ × List Entry)) (e : ℕ × List Entry) (n m : ℕ) → v ≡ log → length log ≤ n
    → Goes IsKept shown moved 0 (v, (next_nib n, None)) (λ x. either (x == 0) 0 x) (Confirms (step 0 0 0 e) (v, (next_nib n, None))) (cells_of (length log) m) log
confirms_goes log v e n m same high =
    let size : length v ≡ length log = ap length same in (
      keeps,
      [],
      None,
      tt,
      nil_kept _ log (record { waiting = m; words = cells_are _ _ _ _ (same_word (length log + m)) refl }),
      inl (refl, refl),
      (append-nil log ∙ sym same, refl, omega arith),
    )

-- whatever the book is, who may write the next cell finds that no lot lies beyond what was seen
pub confirms_moves : (v : List (ℕ × List Entry)) (e : ℕ × List Entry) (n : ℕ) → n ≤ length v
    → Moves IsKept shown moved 0 (v, (next_nib n, None)) (λ x. either (x == 0) 0 x) (Confirms (step 0 0 0 e) (v, (next_nib n, None)))
confirms_moves v e n long cs log kept pre off =
    let P : List Cell → Type 0 = λ c. (0 < length c) × ((cell c 0).1 ≡ true) × Goes IsKept shown moved 0 (v, (next_nib n, None)) (λ x. either (x == 0) 0 x) (Confirms (step 0 0 0 e) (v, (next_nib n, None))) c log in
    let Q : List Cell → Type 0 = λ c. (suc (suc n) < length c) × ((cell c (suc (suc n))).1 ≡ false) in
    let there : Q (cells_of (length log) kept.waiting) = subst Q kept.words (off refl) in
    let high : length log ≤ n = away_place (length log) kept.waiting n there.1 in
    let same : v ≡ log = prefix_whole v log pre (omega arith) in
    subst P (sym kept.words) (omega arith, refl, confirms_goes log v e n kept.waiting same high)
