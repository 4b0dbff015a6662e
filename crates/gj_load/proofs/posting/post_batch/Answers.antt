use Rattle.std.proofs.Common.{◌≡◌, ◌∙◌, ap, arith, length}
use Rattle.gj_load.proofs.WorkloadLemmas.{items_length}
use Rattle.gj_load.proofs.posting.post_batch.Goals as goal

pub post_items-requires-clause-some : goal.post_items-requires-clause-some
post_items-requires-clause-some g c =
    let many : length c.deref.result.now ≡ c.args.batch = ap length (c.deref.ensures.value ∙ c.in-Ok.ensures.items) ∙ items_length c.args.number c.args.batch in
    omega arith

pub post_items-requires-clause-few : goal.post_items-requires-clause-few
post_items-requires-clause-few g c =
    let many : length c.deref.result.now ≡ c.args.batch = ap length (c.deref.ensures.value ∙ c.in-Ok.ensures.items) ∙ items_length c.args.number c.args.batch in
    omega arith

pub returns-clause-full : goal.returns-clause-full
returns-clause-full g c =
    let many : length c.deref.result.now ≡ c.args.batch = ap length (c.deref.ensures.value ∙ c.in-Ok.ensures.items) ∙ items_length c.args.number c.args.batch in
    λ n e. omega (arith, (c.in-Err-post_items.ensures.full n e).1)
