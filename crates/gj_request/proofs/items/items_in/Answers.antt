use Rattle.std.proofs.Common.{◌∙◌, ◌+◌, ap}
use Rattle.std.proofs.lemmas.Result.{err_from_is_err_and}
use Rattle.gj_request.specs.Tables.{add_item}
use Rattle.gj_request.proofs.EachLemmas.{each-ok, each-refused}
use Rattle.gj_request.proofs.items.items_in.Goals as goal

pub returns-in_err-push_item-clause-exact : goal.returns-in_err-push_item-clause-exact
returns-in_err-push_item-clause-exact c =
    let p = err_from_is_err_and c.from_residual-in_err-push_item.result c.from_residual-in_err-push_item.ensures.1 in
    rw (p.1, p.2) (each-refused (add_item c.args.name) c.loop-value.items _ c.args.list.now c.loop-value.value-index c.value-item.result _ c.loop-value-test.true c.value-item.is c.loop-value.invariant.exact c.in_err-push_item.ensures.refused)

pub loop-value-preserved : goal.loop-value-preserved
loop-value-preserved c = record {
  exact = each-ok (add_item c.args.name) c.loop-value.items _ _ c.args.list.now c.loop-value.value-index c.value-item.result c.loop-value-test.true c.value-item.is c.loop-value.invariant.exact c.in_ok-push_item.ensures.ok;
  len = c.in_ok-push_item.ensures.len ∙ ap (λ n. n + 1) c.loop-value.invariant.len;
}
