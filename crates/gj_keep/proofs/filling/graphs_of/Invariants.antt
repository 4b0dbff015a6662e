use Rattle.std.proofs.Common.{◌≡◌, ℕ, ◌<◌, length, get_or}
use Rattle.gj_keep.specs.Rows.{opened}
use Rattle.gj_keep.specs.Openings.{Shows}
use Rattle.gj_keep.proofs.filling.graphs_of.Given as goal

abbrev pub invariant-loop-made : goal.invariant-loop-made
invariant-loop-made g l =
    (length l.graphs.items ≡ l._made) × ((i : ℕ) (d : _) → i < l._made → Shows (g.W.Graph.shown (get_or l.graphs.items i d)) l.conf (opened l.rows))
