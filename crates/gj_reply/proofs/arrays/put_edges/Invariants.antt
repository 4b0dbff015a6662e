use Rattle.std.proofs.Common.{◌≡◌, ◌++◌, map, take, codes}
use Rattle.gj_reply.specs.Arrays.{joined, edge_text}
use Rattle.gj_reply.proofs.arrays.put_edges.Given as goal

-- the array as far as the loop has come
abbrev pub invariant-loop-i : goal.invariant-loop-i
invariant-loop-i l = l.out.items ≡ l.fn.out.items ++ codes "[" ++ joined (map (edge_text l.across) (take l.i l.recent))
