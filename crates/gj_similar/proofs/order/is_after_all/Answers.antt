use Rattle.std.proofs.Common.{◌≡◌, ◌∙◌, sym}
use Rattle.std.specs.declared.cmp.Ordering.TheVariants.{Greater}
use Rattle.gj_similar.specs.Scored.{score_cmp}
use Rattle.gj_similar.proofs.OrderLemmas.{Greater-index, all_after}
use Rattle.gj_similar.proofs.order.is_after_all.Goals as goal

pub returns-in-Some : goal.returns-in-Some
returns-in-Some c after =
    let last = c.in-Some.last.now in
    let greater : score_cmp c.args.score.now last ≡ Greater = sym c.cmp.ensures ∙ Greater-index c.cmp.result (sym c.eq.ensures ∙ after) in
    all_after c.args.score.now last c.args.best.now.keys greater c.in-Some.ensures.all_up_to
