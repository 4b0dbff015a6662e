use Rattle.gj_program.specs.Replays.{stores_at}
use Rattle.gj_program.proofs.replaying.replay.Goals as goal

pub returns-in-None-clause-does : goal.returns-in-None-clause-does
returns-in-None-clause-does g c =
    rw c.in-None.is (c.replay_bare.ensures.does (stores_at (g.P.Keepers.stored c.args.stores.now) (g.P.Keepers.faults c.args.stores.now) (g.P.Keepers.steady c.args.stores.now)))

pub returns-in-None-clause-store_cause : goal.returns-in-None-clause-store_cause
returns-in-None-clause-store_cause g c = λ e.
    absurd ((c.replay_bare.ensures.does (stores_at (g.P.Keepers.stored c.args.stores.now) (g.P.Keepers.faults c.args.stores.now) (g.P.Keepers.steady c.args.stores.now))).judged.1 e)

pub returns-in-None-clause-store_steady : goal.returns-in-None-clause-store_steady
returns-in-None-clause-store_steady g c = λ sure.
    ((c.replay_bare.ensures.does (stores_at (g.P.Keepers.stored c.args.stores.now) (g.P.Keepers.faults c.args.stores.now) (g.P.Keepers.steady c.args.stores.now))).judged.1, sure)
