use Rattle.std.proofs.Common.{◌∙◌, ◌+◌, ap}
use Rattle.std.proofs.lemmas.Result.{err_from_is_err_and}
use Rattle.gj_request.specs.Counts.{add_seed}
use Rattle.gj_request.proofs.EachLemmas.{each-ok, each-refused}
use Rattle.gj_request.proofs.seeds.seeds_in.Goals as goal

pub returns-in_err-push_seed-clause-exact : goal.returns-in_err-push_seed-clause-exact
returns-in_err-push_seed-clause-exact c =
    let p = err_from_is_err_and c.from_residual-in_err-push_seed.result c.from_residual-in_err-push_seed.ensures.1 in
    rw (p.1, p.2) (each-refused (add_seed c.args.name) c.loop-value.seeds _ c.args.list.now c.loop-value.value-index c.value-item.result _ c.loop-value-test.true c.value-item.is c.loop-value.invariant.exact c.in_err-push_seed.ensures.refused)

pub loop-value-preserved : goal.loop-value-preserved
loop-value-preserved c = record {
  same = c.in_ok-push_seed.ensures.same;
  exact = each-ok (add_seed c.args.name) c.loop-value.seeds _ _ c.args.list.now c.loop-value.value-index c.value-item.result c.loop-value-test.true c.value-item.is c.loop-value.invariant.exact c.in_ok-push_seed.ensures.ok;
  len = c.in_ok-push_seed.ensures.len ∙ ap (λ n. n + 1) c.loop-value.invariant.len;
  weights_len = c.in_ok-push_seed.ensures.weights_len ∙ ap (λ n. n + 1) c.loop-value.invariant.weights_len;
  distinct = c.in_ok-push_seed.ensures.distinct c.loop-value.invariant.distinct;
  ids = c.in_ok-push_seed.ensures.ids c.loop-value.invariant.ids;
  weights = c.in_ok-push_seed.ensures.weights c.loop-value.invariant.weights;
}
