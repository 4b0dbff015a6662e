use Rattle.gj_session.proofs.LackLemmas.{asked_lacks}
use Rattle.gj_session.proofs.message.answer_found.Goals as goal

pub answer_ask-requires-clause-by_ask : goal.answer_ask-requires-clause-by_ask
answer_ask-requires-clause-by_ask g c = rw c.lack_for-lack.ensures.exact (asked_lacks c.args.route _ c.args.body.now c.in-Ok.ask c.in-Ok.ensures.ok)
