-- Counts of kinds before each block of 64 cells. Private to this crate: no public clause cites them.
use Rattle.std.specs.Prelude.{◌≡◌, ℕ, ◌*◌, ◌<◌, ◌≤◌, List, length, take, count_by, slice_index_or}
use Rattle.gj_base.specs.declared.kind.Kind.{Kind}
use Rattle.gj_base.specs.Kinds.{same_kind}
use Rattle.gj_compact.specs.Counting.{kind_count, none_counted}
use Rattle.gj_compact.specs.declared.counts.Counts.{Counts}
use Rattle.gj_compact.specs.declared.edge.Edge.{Edge}

-- the counts are those of the kinds
abbrev pub AreCounts : Counts → List Kind → Type 0
AreCounts counts kinds = (kind : Kind) → kind_count counts kind ≡ count_by (same_kind kind) kinds

-- there are counts for each block and for what follows the last one
pub record IsRoom (sums : List Counts) (kinds : List Kind) : Type 0 where
  pub long : length kinds < 64 * length sums
  pub few : length sums ≤ 131073

-- the counts before each block
abbrev pub AreSums : List Counts → List Kind → Type 0
AreSums sums kinds = (b : ℕ) → b < length sums → AreCounts (slice_index_or sums b none_counted) (take (64 * b) kinds)

-- the kind of an interaction
abbrev pub edge_kind : Edge → Kind
edge_kind edge = edge.kind
