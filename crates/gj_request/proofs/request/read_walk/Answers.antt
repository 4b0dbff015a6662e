use Rattle.std.proofs.Common.{refl}
use Rattle.std.proofs.lemmas.Result.{err_from_is_err_and}
use Rattle.gj_request.specs.Requests.{walk_of}
use Rattle.gj_request.proofs.EachLemmas.{refuses_for}
use Rattle.gj_request.proofs.request.read_walk.Goals as goal

pub returns-in_err-since-clause-exact : goal.returns-in_err-since-clause-exact
unfolding walk_of
returns-in_err-since-clause-exact c =
    let p = err_from_is_err_and c.from_residual-in_err-since.result c.from_residual-in_err-since.ensures.1 in
    rw (
      p.1,
      p.2,
      c.in_ok-check_names.ensures.ok,
      c.in_ok-seeds.ensures.exact,
      ← c.in_ok-steps.ensures.exact,
      ← c.in_ok-seed.ensures.exact,
      ← c.in_ok-mask.ensures,
      ← c.in_ok-reset.ensures.exact,
      ← c.in_ok-top.ensures.exact,
      ← c.in_ok-proof.ensures.exact,
      ← c.in_ok-hide.ensures,
      ← c.in_err-since.ensures.exact,
    ) (refuses_for _ _ refl)

pub returns-in_err-not_before-clause-exact : goal.returns-in_err-not_before-clause-exact
unfolding walk_of
returns-in_err-not_before-clause-exact c =
    let p = err_from_is_err_and c.from_residual-in_err-not_before.result c.from_residual-in_err-not_before.ensures.1 in
    rw (
      p.1,
      p.2,
      c.in_ok-check_names.ensures.ok,
      c.in_ok-seeds.ensures.exact,
      ← c.in_ok-steps.ensures.exact,
      ← c.in_ok-seed.ensures.exact,
      ← c.in_ok-mask.ensures,
      ← c.in_ok-reset.ensures.exact,
      ← c.in_ok-top.ensures.exact,
      ← c.in_ok-proof.ensures.exact,
      ← c.in_ok-hide.ensures,
      ← c.in_ok-since.ensures.exact,
      ← c.in_err-not_before.ensures.exact,
    ) (refuses_for _ _ refl)

pub returns-clause-exact : goal.returns-clause-exact
unfolding walk_of
returns-clause-exact c =
    rw (
      c.in_ok-check_names.ensures.ok,
      c.in_ok-seeds.ensures.exact,
      ← c.in_ok-steps.ensures.exact,
      ← c.in_ok-seed.ensures.exact,
      ← c.in_ok-mask.ensures,
      ← c.in_ok-reset.ensures.exact,
      ← c.in_ok-top.ensures.exact,
      ← c.in_ok-proof.ensures.exact,
      ← c.in_ok-hide.ensures,
      ← c.in_ok-since.ensures.exact,
      ← c.in_ok-not_before.ensures.exact,
      c.from_moment.ensures,
    ) refl
