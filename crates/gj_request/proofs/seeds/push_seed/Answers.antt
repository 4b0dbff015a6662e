use Rattle.std.proofs.Common.{◌≡◌, ◌∙◌, eqb, false, sym}
use Rattle.std.specs.List.{list_any}
use Rattle.gj_request.proofs.SeedLemmas.{are_distinct-push, not-true}
use Rattle.gj_request.proofs.seeds.push_seed.Goals as goal

pub returns-clause-distinct : goal.returns-clause-distinct
returns-clause-distinct c =
    let user = c.in_ok-seed.seed.user in
    let none : list_any (λ other. eqb other user) c.args.seeds.now.users ≡ false = sym (c.requires.same user) ∙ not-true _ (sym c.in_ok-is_new.ensures.is_new ∙ c.if-not-is_new.false) in
    rw c.in_ok-push.ensures.ok (are_distinct-push c.args.seeds.now.users user none)
