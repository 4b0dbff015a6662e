use Rattle.std.proofs.Common.{ap, ◌∙◌, insert, arith}
use Rattle.gj_proof.proofs.RankLemmas.{keep_top}
use Rattle.gj_proof.proofs.best.place.Goals as goal

pub returns-in-Ok-clause-ok : goal.returns-in-Ok-clause-ok
returns-in-Ok-clause-ok c =
    c.in-Ok.ensures.items ∙ ap (λ l. insert l c.place_of-at.result c.args.pair) c.truncate.ensures.items
    ∙ keep_top c.args.best.now.items c.place_of-at.result c.args.top c.args.pair _ (omega arith)
    (rw c.as_slice.ensures.value at c.place_of-at.ensures.exact)
