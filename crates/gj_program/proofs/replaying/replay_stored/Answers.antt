use Rattle.std.proofs.Common.{◌≡◌, ◌∙◌, ◌≤◌, ◌+◌, ◌-◌, ◌^◌, min, max, IsTrue, ap, arith}
use Rattle.gj_base.specs.Kept.{Kept}
use Rattle.gj_program.proofs.ReplayLemmas.{replays_home}
use Rattle.gj_program.proofs.replaying.replay_stored.Goals as goal

pub returns-clause-does : goal.returns-clause-does
returns-clause-does g c =
    let old = g.P.Keepers.stored c.args.stores.now in
    let mid = g.P.Keepers.stored c.keeper_at.new.self in
    let new = g.P.Keepers.stored c.take_back.new.self in
    let own = g.P.Keepers.own c.keeper_at.new.self in
    let out = c.in-Ok.ensures in
    let over = c.replay_over-keeper.ensures in
    let same : mid ≡ old = out.stored in
    let kept' = g.P.Kept.Keeper.kept c.replay_over-keeper.result.keeper in
    let told : new.tells ≡ old.tells = c.take_back.ensures.told ∙ ap (λ (k : Kept). k.tells) same in
    let home : IsTrue old.tells → new ≡ kept' = λ yes. c.take_back.ensures.same (ap (λ (k : Kept). k.tells) same ∙ yes) in
    let f = g.P.Keepers.faults c.args.stores.now in
    let f' = g.P.Keepers.faults c.take_back.new.self in
    let k = g.P.Kept.Keeper.faults c.in-Ok.keeper in
    let k' = g.P.Kept.Keeper.faults c.replay_over-keeper.result.keeper in
    let known : f ≤ own + k = omega (arith, out.known, out.count) in
    let count : f' ≡ max f (min (own + k') (2 ^ 64 - 1)) = omega (arith, out.count, c.take_back.ensures.count) in
    replays_home c.args.conf c.args.path.now old new (g.P.Kept.Keeper.kept c.in-Ok.keeper) kept' f f' k k' own (g.P.Keepers.steady c.args.stores.now) (g.P.Keepers.steady c.take_back.new.self) (g.P.Kept.Keeper.steady c.in-Ok.keeper) _ _ _ _ c.replay_over-keeper.result.status
    out.same told home known count (λ sure. (out.steady sure).2) over.session over.left over.judged over.differs over.bad over.asked
