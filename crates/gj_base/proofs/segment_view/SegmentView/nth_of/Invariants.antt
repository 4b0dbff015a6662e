use Rattle.std.proofs.Common.{◌≡◌, drop}
use Rattle.gj_base.specs.Ends.{ends}
use Rattle.gj_base.specs.Numbered.{numbered, dated_ends}
use Rattle.gj_base.proofs.MaskedLemmas.{left_ends}
use Rattle.gj_base.proofs.segment_view.SegmentView.nth_of.Given as goal

-- what is left of the eligible ends from i on is what is left of the other ends' eligible ones
abbrev pub invariant-loop-k : goal.invariant-loop-k
invariant-loop-k g l =
    drop l.i (ends (numbered (g.Self.SegmentView.listed l.self)) l.side l.v l.mask)
    ≡ drop l.left (left_ends l.mask l.k (dated_ends (numbered (g.Self.SegmentView.listed l.self)) l.side l.v))
