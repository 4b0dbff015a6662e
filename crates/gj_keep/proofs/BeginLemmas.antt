-- Where rows may begin.
use Rattle.std.proofs.Common.{◌≡◌, ℕ, suc, ◌+◌, ◌-◌, ◌*◌, ◌/◌, ◌%◌, ◌≤◌, ◌<◌, ◌&&◌, Bool, nat_le, nat_lt, sym, ap, ◌∙◌, arith, mul-le-mul_left, inl, inr}
use Rattle.std.proofs.lemmas.Bool.{cases_lt, lt-ltb, le-ltb, le-leb, lt-leb, eq-eqb}
use Rattle.std.proofs.lemmas.Nat.{le-div}
use Rattle.std.proofs.Math.Nat.{mul-suc, mul-add-div, mul-div-le, div-add-mod}
use Rattle.gj_base.specs.Configuration.{Configuration}
use Rattle.gj_base.specs.History.{base}
use Rattle.gj_keep.specs.Rows.{may_begin}

-- the base of n interactions more than q whole segments
base_more : (c s q n : ℕ) → 0 < c → 0 < n → base c s (c * q + n) ≡ c * ((q + (n - 1) / c + 1) - s)
unfolding base
base_more c s q n pos some =
    let a : c * q + n - 1 ≡ c * q + (n - 1) = omega arith in
    let b : (c * q + n - 1) / c ≡ q + (n - 1) / c = ap (λ (m : ℕ). m / c) a ∙ mul-add-div pos q (n - 1) in
    ap (λ (m : ℕ). c * ((m + 1) - s)) b

-- more than all segments but one are begun
enough : (c r n : ℕ) → 0 < c → 0 < n → c * r < n → r ≤ (n - 1) / c
enough c r n pos some more =
    let e : r * c ≤ n - 1 = (let f : r * c ≡ c * r = grind arith in omega arith) in
    le-div r (n - 1) c pos e

few : (c r n : ℕ) → 0 < c → 0 < n → n ≤ c * r → (n - 1) / c < r
few c r n pos some less = elim (cases_lt ((n - 1) / c) r) [
  | inl low ↦ low
  | inr high ↦
      let a : c * r ≤ c * ((n - 1) / c) = mul-le-mul_left c high in
      let b : c * ((n - 1) / c) ≤ n - 1 = mul-div-le (n - 1) c in
      absurd (omega arith)
]

begin_yes : (c r q n : ℕ) → 0 < c → 0 < n → c * r < n → c * q ≤ base c (suc r) (c * q + n)
begin_yes c r q n pos some more =
    let begun = enough c r n pos some more in
    let at = base_more c (suc r) q n pos some in
    let low : c * q ≤ c * ((q + (n - 1) / c + 1) - suc r) = mul-le-mul_left c (omega arith) in
    omega arith

begin_no : (c r q n : ℕ) → 0 < c → 0 < n → n ≤ c * r → base c (suc r) (c * suc q + n) < c * suc q
begin_no c r q n pos some less =
    let begun = few c r n pos some less in
    let at = base_more c (suc r) (suc q) n pos some in
    let high : c * ((suc q + (n - 1) / c + 1) - suc r) ≤ c * q = mul-le-mul_left c (omega arith) in
    let step : c * suc q ≡ c * q + c = mul-suc c q in
    omega arith

-- an aligned place
aligned_is : (c p : ℕ) → p % c ≡ 0 → p ≡ c * (p / c)
aligned_is c p e = let f = div-add-mod p c in omega arith

begin_test : (c r q n : ℕ) → 0 < c → 0 < n → nat_lt (c * r) n ≡ nat_le (c * suc q) (base c (suc r) (c * suc q + n))
begin_test c r q n pos some = elim (cases_lt (c * r) n) [
  | inl more ↦ lt-ltb (c * r) n more ∙ sym (le-leb (c * suc q) (base c (suc r) (c * suc q + n)) (begin_yes c r (suc q) n pos some more))
  | inr less ↦ le-ltb (c * r) n less ∙ sym (lt-leb (c * suc q) (base c (suc r) (c * suc q + n)) (begin_no c r q n pos some less))
]

begin_at : (c s p n retained : ℕ) → 0 < c → 1 ≤ s → 0 < n → p % c ≡ 0 → 0 < p → retained ≡ c * (s - 1) → nat_lt retained n ≡ nat_le p (base c s (p + n))
begin_at c s p n retained pos some more aligned apart e =
    let q : ℕ = p / c in
    let at : p ≡ c * q = aligned_is c p aligned in
    let one : 1 ≤ q = elim (cases_lt 0 q) [
      | inl high ↦ omega arith
      | inr none ↦
          let zero_q : q ≡ 0 = omega arith in
          let nothing : p ≡ c * 0 = at ∙ ap (λ (m : ℕ). c * m) zero_q in
          absurd (omega arith)
    ] in
    let place : c * suc (q - 1) ≡ p = ap (λ (m : ℕ). c * m) (let f : suc (q - 1) ≡ q = omega arith in f) ∙ sym at in
    let segments : suc (s - 1) ≡ s = omega arith in
    ap (λ (m : ℕ). nat_lt m n) e ∙ (begin_test c (s - 1) (q - 1) n pos more ∙ (λ i. nat_le (place i) (base c (segments i) (place i + n))))

-- rows may begin at an aligned place that isn't 0 where they are more than all segments but one hold
pub begins_is : (conf : Configuration) (place count retained : ℕ) → 0 < conf.capacity → 1 ≤ conf.segments → 0 < count → place % conf.capacity ≡ 0 → 0 < place
    → retained ≡ conf.capacity * conf.segments - conf.capacity → nat_lt retained count ≡ may_begin conf place count
begins_is conf place count retained pos some more aligned apart e =
    let c : ℕ = conf.capacity in
    let s : ℕ = conf.segments in
    let f : c * suc (s - 1) ≡ c * (s - 1) + c = mul-suc c (s - 1) in
    let g : c * suc (s - 1) ≡ c * s = ap (λ (m : ℕ). c * m) (let m : suc (s - 1) ≡ s = omega arith in m) in
    let left : retained ≡ c * (s - 1) = omega arith in
    begin_at c s place count retained pos some more aligned apart left ∙ sym (ap (λ (t : Bool). t && nat_le place (base c s (place + count))) (eq-eqb (place % c) 0 aligned))
