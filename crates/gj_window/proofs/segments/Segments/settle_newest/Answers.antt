use Rattle.std.proofs.Common.{◌≡◌, ◌+◌, ◌*◌, ◌%◌, suc, length, arith, ap, length-append}
use Rattle.std.proofs.Math.Nat.{mul-suc, mul-mod_right}
use Rattle.gj_window.proofs.segments.Segments.settle_newest.Goals as goal

pub returns-then-is_full-clause-whole : goal.returns-then-is_full-clause-whole
returns-then-is_full-clause-whole c =
    let s = c.self.inside in
    let n : length c.lay_out.new.directory.full ≡ s.conf.capacity * suc s.whole =
    grind (arith, ap length c.lay_out.ensures.full, length-append s.directory.full s.newest.items, c.self.invariant.aligned, c.self.invariant.newest_room, mul-suc s.conf.capacity s.whole) in
    rw n (mul-mod_right s.conf.capacity (suc s.whole))
