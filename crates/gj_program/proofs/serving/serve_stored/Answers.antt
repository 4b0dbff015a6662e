use Rattle.std.proofs.Common.{◌≡◌, ◌∙◌, IsTrue, ap}
use Rattle.gj_base.specs.Kept.{Kept}
use Rattle.gj_program.proofs.ServeLemmas.{serves_home}
use Rattle.gj_program.proofs.serving.serve_stored.Goals as goal

pub returns-in-Ok-clause-does : goal.returns-in-Ok-clause-does
returns-in-Ok-clause-does g c =
    let old = g.P.Keepers.stored c.args.stores.now in
    let mid = g.P.Keepers.stored c.keeper_at.new.self in
    let new = g.P.Keepers.stored c.take_back.new.self in
    let out = c.in-Ok.ensures in
    let over = c.serve_over-end.ensures in
    let same : mid ≡ old = out.stored in
    let kept' = g.P.Kept.Keeper.kept c.serve_over-end.result.keeper in
    let told : new.tells ≡ old.tells = c.take_back.ensures.told ∙ ap (λ (k : Kept). k.tells) same in
    let home : IsTrue old.tells → new ≡ kept' = λ yes. c.take_back.ensures.same (ap (λ (k : Kept). k.tells) same ∙ yes) in
    serves_home c.args.conf c.args.path.now c.args.plan old new (g.P.Kept.Keeper.kept c.in-Ok.keeper) kept' (g.P.Keepers.faults c.args.stores.now) (g.P.Keepers.faults c.take_back.new.self)
    (g.P.Keepers.steady c.args.stores.now) (g.P.Keepers.steady c.take_back.new.self) _ _ _ _ c.serve_over-end.result.end
    out.same told home (g.P.Kept.Keeper.untold c.in-Ok.keeper) over.service (λ no. (over.left no).0) over.judged over.differs over.bad
