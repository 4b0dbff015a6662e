use Rattle.std.proofs.Common.{◌≡◌, ◌-◌, take, drop}
use Rattle.std.specs.List.{list_any}
use Rattle.gj_compact.specs.Blocks.{reaches}
use Rattle.gj_compact.proofs.cells.Cells.has.Given as goal

-- one of the ends does where one of those that are left does
abbrev pub invariant-loop-i : goal.invariant-loop-i
invariant-loop-i l =
    let part = take (l.to - l.from) (drop l.from l.self.ends) in
    list_any (reaches l.vertex l.mask) part ≡ list_any (reaches l.vertex l.mask) (drop (l.i - l.from) part)
