use Rattle.std.proofs.Common.{◌≡◌, ◌-◌, filter, take, drop}
use Rattle.gj_compact.specs.Blocks.{lets_through}
use Rattle.gj_compact.proofs.cells.Cells.scan_nth.Given as goal

-- what is left of the eligible ends from i on is what is left of the other ends' eligible ones
abbrev pub invariant-loop-k : goal.invariant-loop-k
invariant-loop-k l =
    drop l.i (filter (lets_through l.mask) (take (l.to - l.from) (drop l.from l.self.ends)))
    ≡ drop l.left (filter (lets_through l.mask) (drop (l.k - l.from) (take (l.to - l.from) (drop l.from l.self.ends))))
