use Rattle.std.proofs.Common.{◌≡◌}
use Rattle.gj_program.specs.Replays.{stores_at}
use Rattle.gj_program.proofs.serving.serve.Goals as goal

pub returns-in-None-clause-does : goal.returns-in-None-clause-does
returns-in-None-clause-does g c =
    let bare = c.serve_bare.ensures.does (stores_at (g.P.Keepers.stored c.args.stores.now) (g.P.Keepers.faults c.args.stores.now) (g.P.Keepers.steady c.args.stores.now)) in
    let known = rw c.window_of-conf.ensures at bare in
    let planned = rw c.plan_by-plan.ensures.exact at known in
    rw c.in-None.is planned

pub returns-in-None-clause-store : goal.returns-in-None-clause-store
returns-in-None-clause-store g c = λ e.
    absurd ((c.serve_bare.ensures.does (stores_at (g.P.Keepers.stored c.args.stores.now) (g.P.Keepers.faults c.args.stores.now) (g.P.Keepers.steady c.args.stores.now))).judged.1 e)

pub returns-in-None-clause-steady_stores : goal.returns-in-None-clause-steady_stores
returns-in-None-clause-steady_stores g c = λ yes e.
    (c.serve_bare.ensures.does (stores_at (g.P.Keepers.stored c.args.stores.now) (g.P.Keepers.faults c.args.stores.now) (g.P.Keepers.steady c.args.stores.now))).judged.1 e

pub returns-in-Some-clause-does : goal.returns-in-Some-clause-does
returns-in-Some-clause-does g c =
    let known = rw c.window_of-conf.ensures at c.serve_stored.ensures.does in
    let planned = rw c.plan_by-plan.ensures.exact at known in
    rw c.in-Some.is planned
