use Rattle.std.proofs.Common.{◌≡◌, take, map}
use Rattle.gj_base.specs.History.{more}
use Rattle.gj_keep.specs.Rows.{item_of}
use Rattle.gj_keep.proofs.filling.fill.Given as goal

abbrev pub invariant-loop-row : goal.invariant-loop-row
invariant-loop-row g l = g.W.Graph.shown l.graph ≡ more (g.W.Graph.shown l.initial.graph) (map item_of (take l.row-index l.rows))
