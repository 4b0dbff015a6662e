use Rattle.gj_session.proofs.GoingLemmas.{answered_by, after_whole}
use Rattle.gj_session.proofs.session.exchange.Goals as goal

pub returns-in-Err-clause-answered : goal.returns-in-Err-clause-answered
returns-in-Err-clause-answered g c =
    let sent = c.in-Err.ensures.gave in
    answered_by _ _ _ c.args.message.close _ c.answer_message-answer.result.outcome sent.0 c.answer_message-answer.result.lack
    c.answer_message-answer.ensures.answers c.answer_message-answer.ensures.lacks sent.1.0 sent.1.1

pub returns-clause-answered : goal.returns-clause-answered
returns-clause-answered g c =
    let sent = c.in-Ok.ensures.gave in
    answered_by _ _ _ c.args.message.close _ c.answer_message-answer.result.outcome sent.0 c.answer_message-answer.result.lack
    c.answer_message-answer.ensures.answers c.answer_message-answer.ensures.lacks sent.1.0
    (after_whole c.args.message.close _ _ _ _ c.ended_by.ensures sent.1.1)
