use Rattle.std.proofs.Common.{◌≡◌, ℕ, ◌∙◌, List, None, ap}
use Rattle.std.specs.Ordering.{nat_cmp, eq_by_cmp}
use Rattle.std.specs.Map.{update_all}
use Rattle.std.proofs.IntoIterSteps.{All-taken}
use Rattle.gj_base.proofs.PairLemmas.{is_tally_found, pairs_found}
use Rattle.gj_base.proofs.tally.Tally.of_pairs.Goals as goal

pub invariant_of-result : goal.invariant_of-result
invariant_of-result c =
    let ran = c.in-Ok.ensures.ran in
    let taken : ran.1 ≡ c.args.pairs.items = All-taken ran.0 ran.1 ((ran.3.2 tt).0, (ran.3.0, ran.3.1, (ran.3.2 tt).1)) ∙ ran.2.0 in
    is_tally_found c.in-Ok.map.entries c.args.pairs.items
    (λ q. ran.4.0 q ∙ ap (λ (xs : List (ℕ × ℕ)). update_all (eq_by_cmp nat_cmp) (λ _. None) xs q) taken) ran.4.1 c.requires

pub returns-in-Ok : goal.returns-in-Ok
returns-in-Ok c =
    let ran = c.in-Ok.ensures.ran in
    let taken : ran.1 ≡ c.args.pairs.items = All-taken ran.0 ran.1 ((ran.3.2 tt).0, (ran.3.0, ran.3.1, (ran.3.2 tt).1)) ∙ ran.2.0 in
    pairs_found c.in-Ok.map.entries c.args.pairs.items
    (λ q. ran.4.0 q ∙ ap (λ (xs : List (ℕ × ℕ)). update_all (eq_by_cmp nat_cmp) (λ _. None) xs q) taken) ran.4.1 c.requires
