-- What the writer's type keeps as the history grows.
use Rattle.std.proofs.Common.{◌≡◌, ℕ, ◌+◌, ◌≤◌, List, length, map, sym, ap, ◌∙◌, subst, arith, length-append, Option, None}
use Rattle.std.proofs.lemmas.List.{length-map}
use Rattle.std.specs.Prelude.{IfSome}
use Rattle.gj_base.specs.declared.item.Item.{Item}
use Rattle.gj_base.specs.declared.history.History.{History}
use Rattle.gj_base.specs.Configuration.{Configuration}
use Rattle.gj_base.specs.History.{Begins, entries_by, extend, length_of}
use Rattle.gj_keep.specs.Books.{BookView, BookKeeps, KeepsFrom}
use Rattle.gj_keep.specs.Rows.{opened, item_of}
use Rattle.gj_base.specs.declared.keeper.KeptItem.{KeptItem}
use Rattle.gj_base.proofs.Windows.{items_back}
use Rattle.gj_once.specs.declared.verdict.LastBatch.{LastBatch}
use Rattle.gj_once.specs.Judging.{last_of, nothing_noted}
use Rattle.gj_once.proofs.JudgingLemmas.{nothing_of}
use Rattle.gj_publish.specs.Writers.{AreWithin, IsOwed, IsGrown, RowsAre, by_seat}
use Rattle.gj_publish.proofs.Counting.{count_more}
use Rattle.gj_publish.proofs.Histories.{begins_self, begins_trans, begins_longer, extend_nil}

pub length_more : (h : History) (k : ℕ) (xs : List Item) → length_of (extend h (entries_by k xs)) ≡ length_of h + length xs
length_more h k xs =
    let count : length (entries_by k xs) ≡ length xs = length-map xs (λ (x : Item). record { item = x; by = k }) in
    omega (arith, length-append h.entries (entries_by k xs), count)

pub owed_none : (h : History) → IsOwed h h None
owed_none h = record { all = sym (extend_nil h); between = tt }

-- at opening
pub grown_none : (known : Option History) (conf : Configuration) (start : ℕ) (book : BookView) (rows : List KeptItem)
    → BookKeeps book (opened rows) → book.conf ≡ conf → start ≡ length_of (opened rows) → IfSome known (λ h. h ≡ opened rows)
    → IsGrown known conf start 0 book (opened rows) (opened rows)
grown_none known conf start book rows keeps is at same = record {
  keeps = keeps;
  conf_is = is;
  begins = begins_self (opened rows);
  nobody = sym (ap (entries_by 0) (items_back 0 (map item_of rows)));
  start_is = sym at;
  known_is = same;
  total_is = omega (arith, at);
}

-- with a batch
pub grown_more : (known : Option History) (conf : Configuration) (start total more : ℕ) (old new : BookView) (o h g : History) (k : ℕ) (xs : List Item)
    → IsGrown known conf start total old o h → BookKeeps new g → new.conf ≡ old.conf → more ≡ total + length xs → g ≡ extend h (entries_by k xs)
    → IsGrown known conf start more new o g
grown_more known conf start total more old new o h g k xs is keeps same sum now = record {
  keeps = keeps;
  conf_is = same ∙ is.conf_is;
  begins = subst (Begins o) (sym now) (begins_trans o h (extend h (entries_by k xs)) is.begins (begins_longer h (entries_by k xs)));
  nobody = is.nobody;
  start_is = is.start_is;
  known_is = is.known_is;
  total_is = omega (arith, ap length_of now, length_more h k xs, is.total_is);
}

-- what a seat posted is what the history has of it, with a batch too
pub posted_is : (k : ℕ) (h g : History) (xs : List Item) (old new : ℕ) → old ≡ by_seat k h → new ≡ old + length xs → g ≡ extend h (entries_by k xs) → new ≡ by_seat k g
posted_is k h g xs old new met more now = more ∙ (ap (λ n. n + length xs) met ∙ (sym (count_more k h xs) ∙ ap (by_seat k) (sym now)))

-- the rows of the book's keeper are those of the history that the book keeps
pub rows_kept : (conf : Configuration) (book : BookView) (h : History) → BookKeeps book h → book.conf ≡ conf → RowsAre conf book.kept h
rows_kept conf book h keeps is =
    λ tells. (book.first, subst (λ (z : Configuration). KeepsFrom z.capacity z.segments book.first book.kept.rows h) is (keeps.rows_are tells))

-- where nothing is noted, all of it is within each history
pub within_none : (h : History) → AreWithin nothing_noted h
within_none h producer =
    let none : (last_of nothing_noted producer).receipt.to ≡ 0 = ap (λ (last : LastBatch). last.receipt.to) (nothing_of producer) in
    omega arith

-- what is noted is within a longer history too
pub within_more : (noted : List LastBatch) (h g : History) (k : ℕ) (xs : List Item) → g ≡ extend h (entries_by k xs) → AreWithin noted h → AreWithin noted g
within_more noted h g k xs now within producer =
    let ends : (last_of noted producer).receipt.to ≤ length_of h = within producer in
    omega (arith, ap length_of now, length_more h k xs)
