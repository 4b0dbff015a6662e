use Rattle.std.proofs.Common.{◌≡◌, false, take}
use Rattle.gj_base.specs.Ends.{ends, leads_to}
use Rattle.gj_base.proofs.graph.Graph.has_end.Given as goal

abbrev pub invariant-loop-i : goal.invariant-loop-i
invariant-loop-i g l =
    let edges = ends (g.Self.Graph.shown l.self).items l.side l.id l.mask in
    leads_to (take l.i edges) l.other ≡ false
