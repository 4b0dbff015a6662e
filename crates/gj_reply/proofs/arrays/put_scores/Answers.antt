use Rattle.std.proofs.Common.{◌++◌, codes}
use Rattle.gj_reply.specs.Arrays.{score_text}
use Rattle.gj_reply.proofs.ArrayLemmas.{grown}
use Rattle.gj_reply.proofs.arrays.put_scores.Goals as goal

pub loop-i-preserved : goal.loop-i-preserved
loop-i-preserved c =
    grown score_text c.args.results.now c.loop-i.i c.index-results-i.result (c.args.out.now.items ++ codes "[") _ _ _
    c.loop-i-test.true c.index-results-i.is c.loop-i.invariant c.in_ok-put_comma.ensures c.in_ok-put_score.ensures
