use Rattle.std.proofs.Common.{◌∙◌}
use Rattle.gj_http.specs.Request.{request}
use Rattle.gj_session.specs.declared.outcome.Outcome.TheVariants.{Stands}
use Rattle.gj_session.proofs.AskLemmas.{of_found, of_lost, found_id, is_some-copied}
use Rattle.gj_session.proofs.message.answer_message.Goals as goal

pub returns-in-Ok-clause-answers : goal.returns-in-Ok-clause-answers
returns-in-Ok-clause-answers g c =
    of_found (λ ask lack. g.A.Answering.answers c.args.answerer.now ask lack c.answer_found.result.outcome c.answer_found.new.answerer) (request c.args.message) c.in-Ok.found.route _ c.in-Ok.ensures.ok c.answer_found.ensures.answers

pub returns-in-Ok-clause-lacks : goal.returns-in-Ok-clause-lacks
returns-in-Ok-clause-lacks g c =
    of_found (λ ask lack. g.A.Answering.answers c.args.answerer.now ask lack (Stands c.answer_found.result.lack) c.answer_found.new.answerer) (request c.args.message) c.in-Ok.found.route _ c.in-Ok.ensures.ok c.answer_found.ensures.lacks

pub returns-in-Err-clause-answers : goal.returns-in-Err-clause-answers
returns-in-Err-clause-answers g c =
    of_lost (λ ask lack. g.A.Answering.answers c.args.answerer.now ask lack c.refuse_ask.result.outcome c.args.answerer.now) (request c.args.message) c.in-Err.why c.in-Err.ensures.err (rw c.reply_to_path.ensures.exact at c.refuse_ask.ensures.answers)

pub returns-in-Err-clause-lacks : goal.returns-in-Err-clause-lacks
returns-in-Err-clause-lacks g c =
    of_lost (λ ask lack. g.A.Answering.answers c.args.answerer.now ask lack (Stands c.refuse_ask.result.lack) c.args.answerer.now) (request c.args.message) c.in-Err.why c.in-Err.ensures.err (rw c.reply_to_path.ensures.exact at c.refuse_ask.ensures.lacks)

pub answer_found-requires : goal.answer_found-requires
answer_found-requires g c = is_some-copied c.in-Ok.found.id ∙ found_id c.args.message.method c.args.message.path.now _ c.in-Ok.ensures.ok
