-- Counts of the kinds of interactions. Private to this crate: no public clause cites them.
use Rattle.std.specs.Prelude.{◌≡◌, List, count_by}
use Rattle.gj_base.specs.declared.kind.Kind.{Kind}
use Rattle.gj_base.specs.Kinds.{same_kind}
use Rattle.gj_compact.specs.Counting.{kind_count}
use Rattle.gj_compact.specs.declared.counts.Counts.{Counts}
use Rattle.gj_compact.specs.declared.edge.Edge.{Edge}

-- the counts are those of these interactions
abbrev pub AreCounts : Counts → List Edge → Type 0
AreCounts counts edges = (kind : Kind) → kind_count counts kind ≡ count_by (λ (edge : Edge). same_kind kind edge.kind) edges
