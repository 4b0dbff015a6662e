-- Runs that are laid out anew in one array. Private to this crate: no public clause cites it.
use Rattle.std.specs.Prelude.{◌≡◌, ℕ, ◌+◌, ◌<◌, ◌≤◌, List, length, take, sum_by, slice_index_or}
use Rattle.gj_compact.specs.declared.lane.Row.{Row}
use Rattle.gj_compact.specs.declared.edge.End.{End}
use Rattle.gj_compact.specs.Lanes.{row_run, want_of}

-- no row's ends lie behind the place that they will have
abbrev pub AreLow : List Row → Type 0
AreLow rows = (v : ℕ) (d : Row) → v < length rows → (slice_index_or rows v d).start ≤ sum_by want_of (take v rows)

-- the row has the same ends and notes
pub record IsKept (old new : Row) (before after : List End) : Type 0 where
  pub len : new.len ≡ old.len
  pub fresh : new.fresh ≡ old.fresh
  pub run : row_run after new ≡ row_run before old
  pub inside : new.start + new.len ≤ length after

-- the same rows, none behind the place that it will have
pub record AreReady (old new : List Row) (before after : List End) : Type 0 where
  pub low : AreLow new
  pub kept : (v : ℕ) (d : Row) → v < length old → IsKept (slice_index_or old v d) (slice_index_or new v d) before after
