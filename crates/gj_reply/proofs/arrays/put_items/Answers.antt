use Rattle.std.proofs.Common.{◌++◌, codes}
use Rattle.gj_reply.specs.Arrays.{item_text}
use Rattle.gj_reply.proofs.ArrayLemmas.{grown}
use Rattle.gj_reply.proofs.arrays.put_items.Goals as goal

pub loop-i-preserved : goal.loop-i-preserved
loop-i-preserved c =
    grown item_text c.args.items.now c.loop-i.i c.index-items-i.result (c.args.out.now.items ++ codes "[") _ _ _
    c.loop-i-test.true c.index-items-i.is c.loop-i.invariant c.in_ok-put_comma.ensures c.in_ok-put_item.ensures
