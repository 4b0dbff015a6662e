-- What is noted stays within the history.
use Rattle.std.proofs.Common.{◌≡◌, ◌≤◌, ◌+◌, ◌-◌, ℕ, zero, suc, List, [], ◌∷◌, ◌++◌, length, get_or, set, arith, ap, sym, subst, ◌∙◌, length-append, Result, Ok, Err, OnOk, OnErr}
use Rattle.gj_base.specs.declared.history.Shown.{Shown}
use Rattle.gj_base.specs.declared.index.IndexError.{IndexError}
use Rattle.gj_base.specs.declared.item.Item.{Item}
use Rattle.gj_base.specs.declared.item.Receipt.{Receipt}
use Rattle.gj_base.specs.History.{IsWindow, end_of, more}
use Rattle.gj_base.proofs.Windows.{more_end}
use Rattle.gj_once.specs.declared.verdict.LastBatch.{LastBatch}
use Rattle.gj_once.specs.Judging.{last_of, no_batch, noting}

-- the end of a longer window
pub longer_end : (w : Shown) (items : List Item) → IsWindow w → end_of (more w items) ≡ end_of w + length items
longer_end w items is =
    let last : end_of (more w items) ≡ w.first + length (w.items ++ items) = more_end w items is in
    let all = length-append w.items items in
    omega arith

-- what is noted ends in a longer view too
pub within_posted : (w v : Shown) (items : List Item) (lasts : List LastBatch) (result : Result Receipt IndexError) → IsWindow w
    → OnOk result (v ≡ more w items) → OnErr result (v ≡ w)
    → ((producer : ℕ) → (last_of lasts producer).receipt.to ≤ end_of w) → (producer : ℕ) → (last_of lasts producer).receipt.to ≤ end_of v
within_posted w v items lasts (Ok r) is shows stays within producer =
    let e : end_of v ≡ end_of w + length items = ap end_of shows ∙ longer_end w items is in
    let h : (last_of lasts producer).receipt.to ≤ end_of w = within producer in
    omega arith
within_posted w v items lasts (Err why) is shows stays within producer =
    let P : Shown → Type 0 = λ u. (last_of lasts producer).receipt.to ≤ end_of u in
    subst P (sym stays) (within producer)

-- what holds of the new one and of the one that was there holds after a write
set_keeps : {A : Type 0} (P : A → Type 0) (l : List A) (i j : ℕ) (a d : A) → P a → P (get_or l j d) → P (get_or (set l i a) j d)
set_keeps P [] i j a d new old = old
set_keeps P (x ∷ l) zero zero a d new old = new
set_keeps P (x ∷ l) zero (suc j) a d new old = old
set_keeps P (x ∷ l) (suc i) zero a d new old = old
set_keeps P (x ∷ l) (suc i) (suc j) a d new old = set_keeps P l i j a d new old

-- a batch that entered is noted within the longer view
pub within_noted : (w v : Shown) (items : List Item) (lasts after : List LastBatch) (producer number : ℕ) (r : Receipt) → IsWindow w
    → v ≡ more w items → r.to ≡ end_of w + length items → after ≡ noting lasts producer number r
    → ((other : ℕ) → (last_of lasts other).receipt.to ≤ end_of w) → (other : ℕ) → (last_of after other).receipt.to ≤ end_of v
within_noted w v items lasts after producer number r is shows to notes within other =
    let e : end_of v ≡ end_of w + length items = ap end_of shows ∙ longer_end w items is in
    let h : (last_of lasts other).receipt.to ≤ end_of w = within other in
    let P : LastBatch → Type 0 = λ last. last.receipt.to ≤ end_of v in
    let Q : List LastBatch → Type 0 = λ l. P (last_of l other) in
    let new : r.to ≤ end_of v = omega arith in
    let old : P (last_of lasts other) = omega arith in
    subst Q (sym notes) (set_keeps P lasts (producer - 1) (other - 1) (record { number = number; receipt = r }) no_batch new old)
