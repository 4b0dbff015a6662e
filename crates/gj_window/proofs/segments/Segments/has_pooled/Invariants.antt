use Rattle.std.proofs.Common.{◌≡◌, ◌++◌, false, take}
use Rattle.gj_base.specs.Ends.{ends, leads_to}
use Rattle.gj_window.proofs.segments.Segments.has_pooled.Given as goal

abbrev pub invariant-loop-i : goal.invariant-loop-i
invariant-loop-i l = leads_to (take l.i (ends (l.self.older ++ l.self.newest) l.side l.id l.mask)) l.other ≡ false
