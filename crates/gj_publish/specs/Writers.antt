-- What contracts see of the writer, and what its type keeps.
use Rattle.std.specs.Prelude.{◌≡◌, ℕ, ◌+◌, ◌<◌, ◌≤◌, ◌==◌, Bool, List, [], length, count_by, slice_index_or, Option, Some, None, IfSome, IsTrue}
use Rattle.gj_base.specs.declared.history.History.{History}
use Rattle.gj_base.specs.declared.item.Entry.{Entry}
use Rattle.gj_base.specs.Configuration.{Configuration}
use Rattle.gj_base.specs.History.{Begins, entries_by, extend, items_of, length_of, window}
use Rattle.gj_base.specs.Kept.{Kept}
use Rattle.gj_keep.specs.Books.{BookView, BookKeeps, KeepsFrom}
use Rattle.gj_once.specs.declared.verdict.LastBatch.{LastBatch}
use Rattle.gj_once.specs.Judging.{last_of}
use Rattle.gj_publish.specs.Posted.{BatchView}

-- the writer: the length at opening, what is published, what is accepted, what is noted of each producer, whether there is
-- room for one more batch, and its keeper's meaning, faults, and whether no call of it fails from here on
pub record WriterView : Type 0 where
  pub start : ℕ
  pub published : History
  pub accepted : History
  pub noted : List LastBatch
  pub ready : Bool
  pub kept : Kept
  pub faults : ℕ
  pub steady : Bool

-- the writer, once all that is accepted is published
abbrev pub all_shown : WriterView → WriterView
all_shown w = record { start = w.start; published = w.accepted; accepted = w.accepted; noted = w.noted; ready = w.ready; kept = w.kept; faults = w.faults; steady = w.steady }

-- the rows of a keeper that tells them are those of the history, from a place on that is in no way behind its window
abbrev pub RowsAre : Configuration → Kept → History → Type 0
RowsAre conf kept h = IsTrue kept.tells → (from : ℕ) × KeepsFrom conf.capacity conf.segments from kept.rows h

-- how many entries of the history the seat with this number posted
abbrev pub by_seat : ℕ → History → ℕ
by_seat number h = count_by (λ e. e.by == number) h.entries

-- the entries of an owed batch
abbrev pub entries_owed : Option BatchView → List Entry
entries_owed (Some b) = entries_by b.by b.items
entries_owed None = []

-- the published history and then the owed batch is the accepted one
pub record IsOwed (shown accepted : History) (owed : Option BatchView) : Type 0 where
  pub all : accepted ≡ extend shown (entries_owed owed)
  pub between : IfSome owed (λ b. (b.before ≡ shown) × (b.after ≡ accepted))

-- no seat posted these entries
abbrev pub ByNoSeat : List Entry → Type 0
ByNoSeat entries = entries ≡ entries_by 0 (items_of entries)

-- the keeper keeps the accepted history, which begins with the history of the rows that were read at opening
pub record IsGrown (known : Option History) (conf : Configuration) (start total : ℕ) (book : BookView) (opening accepted : History) : Type 0 where
  pub keeps : BookKeeps book accepted
  pub conf_is : book.conf ≡ conf
  pub begins : Begins opening accepted
  pub nobody : ByNoSeat opening.entries
  pub start_is : length_of opening ≡ start
  pub known_is : IfSome known (λ h. h ≡ opening)
  pub total_is : length_of accepted ≡ start + total

-- the numbers of the entries of each seat, from seat 1 on
pub record IsCounted (seats : ℕ) (counted : List ℕ) (accepted : History) : Type 0 where
  pub all : length counted ≡ seats
  pub each : (i : ℕ) → i < seats → slice_index_or counted i 0 ≡ by_seat (i + 1) accepted

-- each noted batch ends in the history
abbrev pub AreWithin : List LastBatch → History → Type 0
AreWithin noted h = (producer : ℕ) → (last_of noted producer).receipt.to ≤ length_of h

-- the histories have one length and one window: an index that begins with the first answers as one that went on with the second
pub record Resumes (conf : Configuration) (g h : History) : Type 0 where
  pub same_length : length_of g ≡ length_of h
  pub same_window : window conf.capacity conf.segments g ≡ window conf.capacity conf.segments h
