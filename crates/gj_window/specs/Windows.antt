-- What a window shows, and the forms of its segments.
use Rattle.std.specs.Prelude.{ℕ}
use Rattle.gj_base.specs.declared.history.Shown.{Shown}
use Rattle.gj_window.specs.declared.window.Window.{Window}
use Rattle.gj_window.specs.Segments.{pooled_in, contiguous_in, shown_from}

abbrev pub shown_by : Window → Shown
shown_by w = shown_from w.first w.segments

-- the retained segments in pool form; an empty one is none
abbrev pub pooled : Window → ℕ
pooled w = pooled_in w.segments

-- the retained segments in contiguous form
abbrev pub contiguous : Window → ℕ
contiguous w = contiguous_in w.segments
