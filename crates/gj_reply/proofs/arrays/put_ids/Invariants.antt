use Rattle.std.proofs.Common.{◌≡◌, ◌++◌, map, take, codes}
use Rattle.std.specs.Fmt.{decimal}
use Rattle.gj_reply.specs.Arrays.{joined}
use Rattle.gj_reply.proofs.arrays.put_ids.Given as goal

-- the array as far as the loop has come
abbrev pub invariant-loop-i : goal.invariant-loop-i
invariant-loop-i l = l.out.items ≡ l.fn.out.items ++ codes "[" ++ joined (map decimal (take l.i l.ids))
