use Rattle.std.proofs.Common.{◌≡◌, take, count_by}
use Rattle.gj_base.specs.Kinds.{same_kind}
use Rattle.gj_compact.proofs.sums.count_kind.Given as goal

abbrev pub invariant-loop-other : goal.invariant-loop-other
invariant-loop-other l = l.count ≡ count_by (same_kind l.kind) (take l.other-index l.kinds)
