use Rattle.std.proofs.Common.{◌∙◌, ap, sym, get_or, []}
use Rattle.std.proofs.lemmas.List.Sums.{fold_more}
use Rattle.std.specs.Ordering.{nat_cmp}
use Rattle.std.specs.BTreeSet.{insert_key}
use Rattle.gj_proof.proofs.explain.ascending.Goals as goal

pub loop-id-preserved : goal.loop-id-preserved
loop-id-preserved c =
    let id = get_or c.args.ids.now c.loop-id.id-index 0 in
    c.in-Ok.ensures.keys ∙ ap (λ keys. insert_key nat_cmp keys id) c.loop-id.invariant
    ∙ sym (fold_more (insert_key nat_cmp) [] c.args.ids.now c.loop-id.id-index 0 c.loop-id-test.true)
