-- What a book keeps, and what a keeper keeps of a history.
use Rattle.std.specs.Prelude.{◌≡◌, ℕ, ◌-◌, ◌%◌, ◌^◌, ◌≤◌, ◌==◌, ◌&&◌, ◌||◌, Bool, true, IsTrue, List, drop, filter, nat_le, Option, Some, None}
use Rattle.gj_base.specs.declared.history.History.{History}
use Rattle.gj_base.specs.declared.keeper.KeptConf.{KeptConf}
use Rattle.gj_base.specs.declared.keeper.KeptItem.{KeptItem}
use Rattle.gj_base.specs.Configuration.{Configuration}
use Rattle.gj_base.specs.History.{base, items_of, length_of}
use Rattle.gj_base.specs.Kept.{Kept, placed, next_place, rows_under}
use Rattle.gj_keep.specs.Rows.{first_place, good}

-- the configuration as a store keeps it
abbrev pub asked : Configuration → KeptConf
asked conf = record { version = 2; capacity = conf.capacity; segments = conf.segments }

-- a store with this configuration may be opened: it has none, or one of version 1 or 2 with the asked numbers
abbrev pub suits : Configuration → Option KeptConf → Bool
suits conf None = true
suits conf (Some kept) = (kept.version == 1 || kept.version == 2) && (kept.capacity == conf.capacity && kept.segments == conf.segments)

-- the rows that are told, each with the moment 0 where the kept version is 1
abbrev pub told_rows : Kept → List KeptItem
told_rows kept = rows_under kept.conf kept.rows

-- the rows are those of the history from the place from on, which is aligned and not behind the window's base
pub record KeepsFrom (capacity segments from : ℕ) (rows : List KeptItem) (h : History) : Type 0 where
  pub aligned : from % capacity ≡ 0
  pub not_before : h.first ≤ from
  pub not_behind : from ≤ base capacity segments (length_of h)
  pub rows_are : rows ≡ placed from (drop (from - h.first) (items_of h.entries))

-- a store keeps the history: it may be opened, no row is bad, and the rows are those of the history from an aligned place that is not behind its base
pub record Holds (conf : Configuration) (kept : Kept) (h : History) : Type 0 where
  pub suited : IsTrue (suits conf kept.conf)
  pub sound : IsTrue (good conf (told_rows kept))
  pub from : ℕ
  pub rows_are : KeepsFrom conf.capacity conf.segments from (told_rows kept) h

-- a keeper that tells its rows keeps the history
abbrev pub Keeps : Configuration → Kept → History → Type 0
Keeps conf kept h = IsTrue kept.tells → Holds conf kept h

-- a book: its configuration, the first place that is kept, the length of the history, its keeper's meaning and faults, and
-- whether no call of that keeper fails from here on
pub record BookView : Type 0 where
  pub conf : Configuration
  pub first : ℕ
  pub length : ℕ
  pub kept : Kept
  pub faults : ℕ
  pub steady : Bool

-- the book has the length of the history, and a keeper that tells its rows keeps it from the place first on
pub record BookKeeps (b : BookView) (h : History) : Type 0 where
  pub length_is : length_of h ≡ b.length
  pub rows_are : IsTrue b.kept.tells → KeepsFrom b.conf.capacity b.conf.segments b.first b.kept.rows h

-- the rows that a window of a history of this length may need
abbrev pub trimmed : Configuration → ℕ → List KeptItem → List KeptItem
trimmed conf n rows = filter (λ row. nat_le (base conf.capacity conf.segments n) row.place) rows

-- what a book's store is: of the asked configuration, with good rows, of which it knows the first place and the place after the last
pub record IsStore (conf : Configuration) (first length : ℕ) (kept : Kept) : Type 0 where
  pub of_conf : kept.conf ≡ Some (asked conf)
  pub sound : IsTrue (good conf kept.rows)
  pub first_is : first ≡ first_place kept.rows
  pub length_is : length ≡ next_place kept.rows

-- what each book is
pub record IsBook (conf : Configuration) (first length : ℕ) (kept : Kept) : Type 0 where
  pub bounded : length ≤ 2 ^ 48
  pub store : IsTrue kept.tells → IsStore conf first length kept
