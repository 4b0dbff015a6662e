use Rattle.std.proofs.Common.{◌≡◌, count_by, take}
use Rattle.gj_base.specs.Numbered.{numbered, dated_ends, lets_end}
use Rattle.gj_base.proofs.segment_view.SegmentView.count_of.Given as goal

abbrev pub invariant-loop-i : goal.invariant-loop-i
invariant-loop-i g l =
    l.count ≡ count_by (lets_end l.mask) (take l.i (dated_ends (numbered (g.Self.SegmentView.listed l.self)) l.side l.v))
