use Rattle.std.proofs.Common.{◌≡◌, ◌∙◌, List, length, sym}
use Rattle.gj_similar.specs.Scored.{Scored}
use Rattle.gj_similar.proofs.OrderLemmas.{take-insert_after}
use Rattle.gj_similar.proofs.order.keep_best.Goals as goal

pub returns-then-is_after_all : goal.returns-then-is_after_all
returns-then-is_after_all c =
    let keys : List Scored = c.args.best.now.keys in
    let few : length keys ≡ c.args.top = sym c.len.ensures.len ∙ c.if-len-top.true in
    sym (take-insert_after c.args.top keys c.args.score few (c.is_after_all.ensures c.if-is_after_all.true))
