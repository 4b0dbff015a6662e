use Rattle.std.proofs.Common.{◌∙◌, ◌+◌, ap}
use Rattle.std.proofs.lemmas.Result.{err_from_is_err_and}
use Rattle.gj_request.specs.Forms.{add_id}
use Rattle.gj_request.proofs.EachLemmas.{each-ok, each-refused}
use Rattle.gj_request.proofs.forms.ids_in.Goals as goal

pub returns-in_err-push_id-clause-exact : goal.returns-in_err-push_id-clause-exact
returns-in_err-push_id-clause-exact c =
    let p = err_from_is_err_and c.from_residual-in_err-push_id.result c.from_residual-in_err-push_id.ensures.1 in
    rw (p.1, p.2) (each-refused (add_id c.args.name) c.loop-value.ids _ c.args.list.now c.loop-value.value-index c.value-item.result _ c.loop-value-test.true c.value-item.is c.loop-value.invariant.exact c.in_err-push_id.ensures.refused)

pub loop-value-preserved : goal.loop-value-preserved
loop-value-preserved c = record {
  same = c.in_ok-push_id.ensures.same;
  exact = each-ok (add_id c.args.name) c.loop-value.ids _ _ c.args.list.now c.loop-value.value-index c.value-item.result c.loop-value-test.true c.value-item.is c.loop-value.invariant.exact c.in_ok-push_id.ensures.ok;
  len = c.in_ok-push_id.ensures.len ∙ ap (λ n. n + 1) c.loop-value.invariant.len;
  distinct = c.in_ok-push_id.ensures.distinct c.loop-value.invariant.distinct;
  ids = c.in_ok-push_id.ensures.ids c.loop-value.invariant.ids;
}
