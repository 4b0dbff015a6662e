use Rattle.std.proofs.Common.{◌≡◌, ◌∙◌, eqb, false, sym}
use Rattle.std.specs.List.{list_any}
use Rattle.gj_request.proofs.SeedLemmas.{are_distinct-push, not-true}
use Rattle.gj_request.proofs.forms.push_id.Goals as goal

pub returns-clause-distinct : goal.returns-clause-distinct
returns-clause-distinct c =
    let none : list_any (λ other. eqb other c.in_ok-id.id) c.args.ids.now ≡ false = sym (c.requires.same c.in_ok-id.id) ∙ not-true _ (sym c.in_ok-is_new.ensures.is_new ∙ c.if-not-is_new.false) in
    rw c.in_ok-push.ensures.ok (are_distinct-push c.args.ids.now c.in_ok-id.id none)
