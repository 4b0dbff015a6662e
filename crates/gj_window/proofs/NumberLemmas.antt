-- Segments, counted.
use Rattle.std.proofs.Common.{◌≡◌, ℕ, zero, suc, ◌+◌, ◌-◌, ◌*◌, ◌/◌, ◌%◌, ◌<◌, ◌≤◌, ◌⊎◌, inl, inr, ◌∙◌, sym, ap, arith, mul-le-mul_left}
use Rattle.std.proofs.lemmas.Bool.{cases_lt}
use Rattle.std.proofs.lemmas.Nat.{div-mul-add, mod-mul-add}
use Rattle.std.proofs.Math.Nat.{mul-suc, mul-div-le, div-add-mod, add-mul-div_left}

-- there is no whole segment, or at least one
pub none_or_some : (c w : ℕ) → (c * w ≡ 0) ⊎ (c ≤ c * w)
none_or_some c zero = inl (omega arith)
none_or_some c (suc w) = inr (omega (arith, mul-suc c w))

pub room_less : (c n : ℕ) → 1 ≤ n → c * (n - 1) + c ≡ c * n
room_less c n some =
    let e : n ≡ suc (n - 1) = omega arith in
    sym (ap (λ (k : ℕ). c * k) e ∙ mul-suc c (n - 1))

pub some_whole : (c w n : ℕ) → c ≤ n → n ≡ c * w → 16 ≤ c → 1 ≤ w
some_whole c zero n le is low = absurd (omega arith)
some_whole c (suc w) n le is low = omega arith

-- whole segments, and a rest below one
pub whole_and_rest : (c f k : ℕ) → k < c → f % c ≡ 0 → f / c ≡ (f + k) / c
whole_and_rest c f k below aligned =
    let at : c * (f / c) + f % c ≡ f = div-add-mod f c in
    let same : f / c * c + k ≡ f + k = omega arith in
    sym (div-mul-add (f / c) c k below) ∙ ap (λ (n : ℕ). n / c) same

pub rest_is : (c f k : ℕ) → k < c → f % c ≡ 0 → (f + k) % c ≡ k
rest_is c f k below aligned =
    let at : c * (f / c) + f % c ≡ f = div-add-mod f c in
    let same : f / c * c + k ≡ f + k = omega arith in
    ap (λ (n : ℕ). n % c) (sym same) ∙ mod-mul-add (f / c) c k below

-- where the window is full, the next interaction moves its base by a segment
pub base_next : (c s f : ℕ) → 0 < c → f % c ≡ 0 → c * (((f + c * s) / c + 1) - s) ≡ f + c
base_next c s f pos aligned =
    let at : c * (f / c) + f % c ≡ f = div-add-mod f c in
    let q : (f + c * s) / c ≡ f / c + s = add-mul-div_left f s pos in
    let n : ((f + c * s) / c + 1) - s ≡ suc (f / c) = omega arith in
    ap (λ (k : ℕ). c * k) n ∙ (mul-suc c (f / c) ∙ (let e : c * (f / c) + c ≡ f + c = omega arith in e))

begun_few : (c s q m : ℕ) → c * m < c * q + c * s → m + 1 ≤ q + s
begun_few c s q m below = elim (cases_lt m (q + s)) [
  | inl fewer ↦ omega arith
  | inr more ↦ (let over : c * (q + s) ≤ c * m = mul-le-mul_left c more in absurd (omega arith))
]

-- where it isn't, the base stays
pub base_stays : (c s f n : ℕ) → f % c ≡ 0 → n < c * s → c * (((f + n) / c + 1) - s) ≤ f
base_stays c s f n aligned below =
    let at : c * (f / c) + f % c ≡ f = div-add-mod f c in
    let low : c * ((f + n) / c) ≤ f + n = mul-div-le (f + n) c in
    let few : (f + n) / c + 1 ≤ f / c + s = begun_few c s (f / c) ((f + n) / c) (omega arith) in
    let fewer : ((f + n) / c + 1) - s ≤ f / c = omega arith in
    let le : c * (((f + n) / c + 1) - s) ≤ c * (f / c) = mul-le-mul_left c fewer in
    omega arith
