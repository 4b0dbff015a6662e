use Rattle.std.proofs.Common.{◌≡◌, ◌++◌, map, take, codes}
use Rattle.gj_reply.specs.Arrays.{joined, item_text}
use Rattle.gj_reply.proofs.arrays.put_items.Given as goal

-- the array as far as the loop has come
abbrev pub invariant-loop-i : goal.invariant-loop-i
invariant-loop-i l = l.out.items ≡ l.fn.out.items ++ codes "[" ++ joined (map item_text (take l.i l.items))
