-- Sizes and levels.
use Rattle.std.proofs.Common.{◌≡◌, ℕ, zero, suc, ◌+◌, ◌-◌, ◌*◌, ◌^◌, ◌<◌, ◌≤◌, cond, eqb, refl, ap, sym, ◌∙◌, subst, arith, inl, inr, add-one, lit≤, lit<}
use Rattle.std.proofs.Math.Nat.{pow-succ'}
use Rattle.std.proofs.lemmas.Bool.{cases_lt}
use Rattle.std.proofs.lemmas.Bool.Decides.{eqb_tells}
use Rattle.gj_pool.specs.Levels.{hops_to, levels_to, spent}
use Rattle.gj_pool.specs.Slices.{slice_size, slice_of, slices_for}

-- a power of two, doubled
pub double : (k : ℕ) → 2 ^ (k + 1) ≡ 2 * 2 ^ k
double k = rw add-one (pow-succ' 2 k)

pub size-suc : (m : ℕ) → slice_size (suc m) ≡ 2 * slice_size m
unfolding slice_size
size-suc m = refl

pub size-zero : slice_size 0 ≡ 4
unfolding slice_size
size-zero = refl

pub size_pos : (m : ℕ) → 4 ≤ slice_size m
size_pos zero = omega (arith, size-zero)
size_pos (suc m) = omega (arith, size-suc m, size_pos m)

pub size-pow : (m : ℕ) → slice_size m ≡ 2 ^ (m + 2)
size-pow zero = size-zero
size-pow (suc m) =
    let e : suc m + 2 ≡ m + 2 + 1 = omega arith in
    rw e (size-suc m ∙ (ap (λ n. 2 * n) (size-pow m) ∙ sym (double (m + 2))))

-- each slice is at least twice as long as those before it
pub size_twice : (a b : ℕ) → a < b → 2 * slice_size a ≤ slice_size b
size_twice a zero h = absurd (omega arith)
size_twice a (suc b) h =
    elim (cases_lt a b) [ inl lt ↦ omega (arith, size-suc b, size_twice a b lt) | inr le ↦ (let e : a ≡ b = omega arith in rw e (omega (arith, size-suc b))) ]

-- one size fits
pub size_one : (a b x : ℕ) → slice_size a ≤ x → x < 2 * slice_size a → slice_size b ≤ x → x < 2 * slice_size b → a ≡ b
size_one a b x al ah bl bh =
    elim (cases_lt a b) [
      | inl lt ↦ absurd (omega (arith, size_twice a b lt))
      | inr le ↦ elim (cases_lt b a) [ inl lt ↦ absurd (omega (arith, size_twice b a lt)) | inr ge ↦ omega arith ]
    ]

-- a place below a size lies in a slice before it
pub size_below : (a b x : ℕ) → slice_size a ≤ x → x < slice_size b → a < b
size_below a b x al bh =
    elim (cases_lt a b) [
      | inl lt ↦ lt
      | inr le ↦ elim (cases_lt b a) [ inl lt ↦ absurd (omega (arith, size_twice b a lt)) | inr ge ↦ (let e : a ≡ b = omega arith in absurd (omega (arith, ap slice_size e))) ]
    ]

pub hops-suc : (i : ℕ) → hops_to (suc i) ≡ cond (eqb (i + 3) (2 ^ (hops_to i + 2))) (hops_to i + 1) (hops_to i)
unfolding hops_to
hops-suc i = refl

pub hops-zero : hops_to 0 ≡ 0
unfolding hops_to
hops-zero = refl

-- the two bounds of a level
abbrev AtLevel : ℕ → ℕ → Type 0
AtLevel i k = (2 ^ (k + 1) ≤ i + 2) × (i + 2 < 2 ^ (k + 2))

next_level : (i k : ℕ) → AtLevel i k → AtLevel (suc i) (cond (eqb (i + 3) (2 ^ (k + 2))) (k + 1) k)
next_level i k h =
    elim (eqb_tells (i + 3) (2 ^ (k + 2))) [
      | inl p ↦ rw p.0 (omega (arith, p.1, h.0, h.1, double (k + 2), ap (λ n. 2 ^ n) (same_sum k)), omega (arith, p.1, double (k + 2), ap (λ n. 2 ^ n) (same_sum_more k)))
      | inr q ↦ rw q.0 (omega (arith, h.0), omega (arith, h.1, q.1))
    ]
  where
    same_sum : (k : ℕ) → k + 1 + 1 ≡ k + 2
    same_sum k = omega arith

    same_sum_more : (k : ℕ) → k + 1 + 2 ≡ k + 2 + 1
    same_sum_more k = omega arith

pub hops_level : (i : ℕ) → (2 ^ (hops_to i + 1) ≤ i + 2) × (i + 2 < 2 ^ (hops_to i + 2))
hops_level zero = rw hops-zero (lit≤ tt, lit< tt)
hops_level (suc i) = rw (hops-suc i) (next_level i (hops_to i) (hops_level i))

-- levels by sizes: the places past level 0
slice_at : (t : ℕ) → (k : ℕ) → (2 ^ (k + 1) ≤ t + 4) × (t + 4 < 2 ^ (k + 2)) → (suc (k - 1) ≡ k) × (slice_size (k - 1) ≤ t + 4) × (t + 4 < 2 * slice_size (k - 1))
slice_at t zero h = absurd (let n : 2 ^ 2 ≡ 4 = refl in omega (arith, h.1, n))
slice_at t (suc k) h =
    let e : suc k - 1 ≡ k = omega arith in
    rw e (refl, omega (arith, h.0, size-pow k, ap (λ n. 2 ^ n) (up k)), omega (arith, h.1, size-pow k, double (k + 2), ap (λ n. 2 ^ n) (upper k)))
  where
    up : (k : ℕ) → suc k + 1 ≡ k + 2
    up k = omega arith

    upper : (k : ℕ) → suc k + 2 ≡ k + 2 + 1
    upper k = omega arith

pub slice_is : (t : ℕ) → (suc (slice_of t) ≡ hops_to (t + 2)) × (slice_size (slice_of t) ≤ t + 4) × (t + 4 < 2 * slice_size (slice_of t))
unfolding slice_of
slice_is t = slice_at t (hops_to (t + 2)) (let h = hops_level (t + 2) in (omega (arith, h.0), omega (arith, h.1)))

-- the slice of a place is the one whose size fits
pub slice-is : (t m : ℕ) → slice_size m ≤ t + 4 → t + 4 < slice_size (suc m) → slice_of t ≡ m
slice-is t m low high =
    let h = slice_is t in
    size_one (slice_of t) m (t + 4) h.1 h.2 low (omega (arith, high, size-suc m))

-- the slices of a degree: they hold it, and without the last one they do not
pub slices_fit : (t : ℕ) → t + 4 ≤ slice_size (slices_for t)
unfolding slices_for
slices_fit t = omega (arith, (hops_level (t + 1)).1, size-pow (hops_to (t + 1)))

pub slices_need : (t m : ℕ) → suc m ≡ slices_for t → slice_size m < t + 4
unfolding slices_for
slices_need t m e = omega (arith, (hops_level (t + 1)).0, size-pow m, ap (λ n. 2 ^ n) (up t m e))
  where
    up : (t m : ℕ) → suc m ≡ hops_to (t + 1) → m + 2 ≡ hops_to (t + 1) + 1
    up t m e = omega (arith, e)

-- the slices of one more place
pub slices-more : (t m : ℕ) → slice_size m ≤ t + 4 → t + 4 < slice_size (suc m) → slices_for (t + 1) ≡ suc m
unfolding slices_for
slices-more t m low high =
    let e : t + 1 + 1 ≡ t + 2 = omega arith in
    rw e (sym (slice_is t).0 ∙ ap suc (slice-is t m low high))

pub slices-zero : slices_for 0 ≡ 0
unfolding slices_for
slices-zero = hops-suc 0 ∙ rw hops-zero refl

-- what they cost
pub spent-is : (t : ℕ) → spent (t + 2) ≡ levels_to (slices_for t)
unfolding spent slices_for
spent-is t = let e : t + 2 ≡ suc (t + 1) = omega arith in rw e refl

pub levels-suc : (n : ℕ) → levels_to (suc n) ≡ levels_to n + slice_size n + 1
unfolding levels_to
levels-suc n = omega (arith, size-pow n)

levels-is : (n : ℕ) → levels_to n + 4 ≡ slice_size n + n
unfolding levels_to
levels-is zero = omega (arith, size-zero)
levels-is (suc n) = omega (arith, levels-is n, levels-suc n, size-suc n)

more_than : (n : ℕ) → 2 * n + 4 ≤ slice_size n
more_than zero = omega (arith, size-zero)
more_than (suc n) = omega (arith, more_than n, size-suc n)

levels_small : (n d : ℕ) → 2 ^ (n + 1) ≤ d + 1 → levels_to n ≤ 3 * d
levels_small n d low = let k : n + 1 + 1 ≡ n + 2 = omega arith in
    omega (arith, low, levels-is n, more_than n, size-pow n, double (n + 1), ap (λ i. 2 ^ i) k)

-- the law: a list of d cells costs at most 3 d cells past level 0
pub spent_small : (d : ℕ) → spent d ≤ 3 * d
unfolding spent
spent_small zero = omega arith
spent_small (suc i) = levels_small (hops_to i) (suc i) (omega (arith, (hops_level i).0))

-- the level is the only number with its bounds
pub level_one : (i k : ℕ) → 2 ^ (k + 1) ≤ i + 2 → i + 2 < 2 * 2 ^ (k + 1) → k ≡ hops_to i
level_one i k low high =
    let h = hops_level i in
    size_one k (hops_to i) (2 * (i + 2))
    (omega (arith, low, size-pow k, twice k)) (omega (arith, high, size-pow k, twice k))
    (omega (arith, h.0, size-pow (hops_to i), twice (hops_to i))) (omega (arith, h.1, size-pow (hops_to i), twice (hops_to i)))
  where
    twice : (k : ℕ) → 2 ^ (k + 2) ≡ 2 * 2 ^ (k + 1)
    twice k = let e : k + 2 ≡ k + 1 + 1 = omega arith in ap (λ n. 2 ^ n) e ∙ double (k + 1)

-- the logarithm tells the level
pub level_by_log : (i r : ℕ) → 2 ^ r ≤ i + 2 → i + 2 < 2 * 2 ^ r → r - 1 ≡ hops_to i
level_by_log i zero low high = absurd (let one : 2 ^ 0 ≡ 1 = refl in omega (arith, one, high))
level_by_log i (suc k) low high =
    let e : suc k - 1 ≡ k = omega arith in
    let f : suc k ≡ k + 1 = omega arith in
    rw e (level_one i k (subst (λ n. 2 ^ n ≤ i + 2) f low) (subst (λ n. i + 2 < 2 * 2 ^ n) f high))

pub spent-first : spent 2 ≡ 0
unfolding levels_to
spent-first = spent-is 0 ∙ ap levels_to slices-zero
