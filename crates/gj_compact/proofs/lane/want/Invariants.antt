use Rattle.std.proofs.Common.{◌≡◌, take}
use Rattle.std.specs.List.{sum_by}
use Rattle.gj_compact.specs.Lanes.{want_of}
use Rattle.gj_compact.proofs.lane.want.Given as goal

abbrev pub invariant-loop-row : goal.invariant-loop-row
invariant-loop-row l = l.want ≡ sum_by want_of (take l.row-index l.rows)
