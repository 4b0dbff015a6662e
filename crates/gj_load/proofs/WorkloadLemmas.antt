-- The interactions of a workload, as they are made one after another.
use Rattle.std.proofs.Common.{◌≡◌, ℕ, zero, suc, ◌∙◌, ◌+◌, ◌*◌, ◌/◌, ◌%◌, ◌^◌, ◌<◌, List, [], ◌∷◌, ◌++◌, length, refl, sym, ap, ap₂, arith, add-zero, add-suc, add-one, append_assoc, length-append}
use Rattle.std.proofs.Math.Nat.{add-mul-mod_self_left, div-add-mod}
use Rattle.std.proofs.lemmas.List.{append-nil}
use Rattle.gj_base.specs.declared.item.Item.{Item}
use Rattle.gj_load.specs.Workload.{next_number, number_after, item_from, interaction, items_from}

mod_first : (a c m : ℕ) → (a % m + c) % m ≡ (a + c) % m
mod_first a c m =
    let whole : a % m + c + m * (a / m) ≡ a + c = omega (arith, div-add-mod a m) in
    sym (add-mul-mod_self_left (a % m + c) m (a / m)) ∙ ap (λ n. n % m) whole

-- the remainder may be taken before the sum too
pub wrapped : (x : ℕ) → (x * 6364136223846793005 % 18446744073709551616 + 1442695040888963407) % 18446744073709551616 ≡ next_number x
unfolding next_number
wrapped x = mod_first (x * 6364136223846793005) 1442695040888963407 18446744073709551616

pub after_none : (number : ℕ) → number_after number 0 ≡ number
unfolding number_after
after_none number = refl

pub after_next : (number k : ℕ) → number_after number (k + 1) ≡ next_number (number_after number k)
unfolding number_after
after_next number k = ap (number_after number) (add-one k)

pub items_none : (number : ℕ) → items_from number 0 ≡ []
unfolding items_from
items_none number = refl

pub items_next : (number k : ℕ) → items_from number (k + 1) ≡ items_from number k ++ item_from (number_after number (k + 1)) ∷ []
unfolding items_from
items_next number k = ap (items_from number) (add-one k)

pub after_after : (number a b : ℕ) → number_after number (a + b) ≡ number_after (number_after number a) b
unfolding number_after
after_after number a zero = ap (number_after number) (add-zero a)
after_after number a (suc b) = ap (number_after number) (add-suc a b) ∙ ap next_number (after_after number a b)

-- the interactions of a workload, and those that follow them
pub items_items : (number a b : ℕ) → items_from number (a + b) ≡ items_from number a ++ items_from (number_after number a) b
unfolding items_from
items_items number a zero = ap (items_from number) (add-zero a) ∙ sym (append-nil (items_from number a))
items_items number a (suc b) =
    let place : a + b + 1 ≡ a + (b + 1) = omega arith in
    let last : interaction number (a + b) ≡ interaction (number_after number a) b = ap (λ k. item_from (number_after number k)) place ∙ ap item_from (after_after number a (b + 1)) in
    ap (items_from number) (add-suc a b)
    ∙ ap₂ (λ (xs : List Item) (x : Item). xs ++ x ∷ []) (items_items number a b) last
    ∙ append_assoc (items_from number a) (items_from (number_after number a) b) (interaction (number_after number a) b ∷ [])

pub items_length : (number k : ℕ) → length (items_from number k) ≡ k
unfolding items_from
items_length number zero = refl
items_length number (suc k) =
    let so_far = items_length number k in omega (arith, length-append (items_from number k) (interaction number k ∷ []), so_far)
