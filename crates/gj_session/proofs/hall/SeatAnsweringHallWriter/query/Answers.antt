use Rattle.gj_session.proofs.SeatLemmas.{query_says}
use Rattle.gj_session.proofs.hall.SeatAnsweringHallWriter.query.Goals as goal

pub returns-in-Ok-clause-exact : goal.returns-in-Ok-clause-exact
returns-in-Ok-clause-exact g c =
    let x = c.in-Ok.ensures in
    query_says _ _ _ c.args.query.now c.args.lack c.in-Ok.reply x.others.0 x.others.1 x.front x.numbers x.ok
