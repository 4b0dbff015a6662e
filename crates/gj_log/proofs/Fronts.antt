-- Beginnings of one list.
use Rattle.std.proofs.Common.{◌≡◌, ℕ, ◌<◌, ◌≤◌, List, [], ◌∷◌, ◌++◌, length, refl, ap, sym, ◌∙◌, arith, append_assoc, length-append}
use Rattle.std.proofs.lemmas.List.{append-nil}
use mathlib.Core.List.{IsPrefix}
use Rattle.gj_base.specs.declared.item.Entry.{Entry}
use Rattle.gj_base.specs.declared.history.History.{History}
use Rattle.gj_base.specs.History.{Begins, length_of, extend}
use Rattle.gj_log.specs.Entered.{flat, first_of, first_lot, history_of}

-- of two beginnings of one list the shorter begins the longer
pub prefix_shorter : {A : Type 0} (xs ys zs : List A) → IsPrefix xs zs → IsPrefix ys zs → length xs ≤ length ys → IsPrefix xs ys
prefix_shorter [] ys zs p q le = (ys, refl)
prefix_shorter (x ∷ xs) [] zs p q le = absurd (omega arith)
prefix_shorter (x ∷ xs) (y ∷ ys) [] p q le = absurd (cc (p.1))
prefix_shorter (x ∷ xs) (y ∷ ys) (z ∷ zs) p q le =
    let heads : x ≡ y = cc (p.1, q.1) in
    let rest = prefix_shorter xs ys zs (p.0, cc (p.1)) (q.0, cc (q.1)) (omega arith) in
    (rest.0, cc (heads, rest.1))

-- a beginning as long as the whole is the whole
pub prefix_whole : {A : Type 0} (xs ys : List A) → IsPrefix xs ys → length ys ≤ length xs → xs ≡ ys
prefix_whole [] [] p le = refl
prefix_whole [] (y ∷ ys) p le = absurd (omega arith)
prefix_whole (x ∷ xs) [] p le = absurd (cc (p.1))
prefix_whole (x ∷ xs) (y ∷ ys) p le =
    let rest = prefix_whole xs ys (p.0, cc (p.1)) (omega arith) in cc (p.1, rest)

pub prefix_length : {A : Type 0} (xs ys : List A) → IsPrefix xs ys → length xs ≤ length ys
prefix_length xs ys p = omega (arith, sym (ap length p.1) ∙ length-append xs p.0)

pub flat-append : (xs ys : List (ℕ × List Entry)) → flat (xs ++ ys) ≡ flat xs ++ flat ys
flat-append [] ys = refl
flat-append (x ∷ xs) ys = ap (λ w. x.1 ++ w) (flat-append xs ys) ∙ sym (append_assoc x.1 (flat xs) (flat ys))

pub flat_one : (xs : List (ℕ × List Entry)) (y : ℕ × List Entry) → flat (xs ++ y ∷ []) ≡ flat xs ++ y.1
flat_one xs y = flat-append xs (y ∷ []) ∙ ap (λ w. flat xs ++ w) (append-nil y.1)

-- the entries of a list of lots begin those of a longer one
flat_prefix : (xs ys : List (ℕ × List Entry)) → IsPrefix xs ys → IsPrefix (flat xs) (flat ys)
flat_prefix xs ys p = (flat p.0, sym (flat-append xs p.0) ∙ ap flat p.1)

first_prefix : (xs ys : List (ℕ × List Entry)) → 0 < length xs → IsPrefix xs ys → first_of xs ≡ first_of ys
first_prefix [] ys some p = absurd (omega arith)
first_prefix (x ∷ xs) [] some p = absurd (cc (p.1))
first_prefix (x ∷ xs) (y ∷ ys) some p = let heads : x ≡ y = cc (p.1) in ap (λ w. w.0) heads

-- two beginnings of one log: the shorter history begins the longer
pub history_shorter : (xs ys zs : List (ℕ × List Entry)) → 0 < length xs → 0 < length ys → IsPrefix xs zs → IsPrefix ys zs → length_of (history_of xs) ≤ length_of (history_of ys) → Begins (history_of xs) (history_of ys)
history_shorter xs ys zs some more p q le =
    let first : first_of xs ≡ first_of ys = first_prefix xs zs some p ∙ sym (first_prefix ys zs more q) in
    let rest = prefix_shorter (flat xs) (flat ys) (flat zs) (flat_prefix xs zs p) (flat_prefix ys zs q) (omega (arith, first)) in
    record { same_first = first; rest = rest.0; joined = rest.1 }

pub history_same : (xs ys zs : List (ℕ × List Entry)) → 0 < length xs → 0 < length ys → IsPrefix xs zs → IsPrefix ys zs → length_of (history_of xs) ≡ length_of (history_of ys) → history_of xs ≡ history_of ys
history_same xs ys zs some more p q e =
    let shorter = history_shorter xs ys zs some more p q (omega arith) in
    let first : first_of xs ≡ first_of ys = shorter.same_first in
    let entries : flat xs ≡ flat ys = prefix_whole (flat xs) (flat ys) (shorter.rest, shorter.joined) (omega (arith, first)) in
    λ i. record { first = first i; entries = entries i }

-- a lot behind others
first_append : (xs : List (ℕ × List Entry)) (y : ℕ × List Entry) → 0 < length xs → first_of (xs ++ y ∷ []) ≡ first_of xs
first_append [] y some = absurd (omega arith)
first_append (x ∷ xs) y some = refl

pub history_more : (xs : List (ℕ × List Entry)) (y : ℕ × List Entry) → 0 < length xs → history_of (xs ++ y ∷ []) ≡ extend (history_of xs) y.1
history_more xs y some = λ i. record { first = first_append xs y some i; entries = flat_one xs y i }

-- the first lot
pub history_first : (h : History) → history_of ([] ++ (h.first, h.entries) ∷ []) ≡ h
history_first h = λ i. record { first = h.first; entries = append-nil h.entries i }

pub lot_append : (xs : List (ℕ × List Entry)) (y : ℕ × List Entry) → 0 < length xs → first_lot (xs ++ y ∷ []) ≡ first_lot xs
lot_append [] y some = absurd (omega arith)
lot_append (x ∷ xs) y some = refl

-- the history of a beginning of a log begins that of the log
pub begins_of : (xs ys : List (ℕ × List Entry)) → 0 < length xs → IsPrefix xs ys → Begins (history_of xs) (history_of ys)
begins_of xs ys some p =
    let rest = flat_prefix xs ys p in
    record { same_first = first_prefix xs ys some p; rest = rest.0; joined = rest.1 }
