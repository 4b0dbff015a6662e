use Rattle.std.proofs.Common.{◌∙◌, refl}
use Rattle.gj_http.specs.Request.{request}
use Rattle.gj_session.proofs.GoingLemmas.{goes_none, goes_goes, goes_ended, one_goes, one_ended, refused_ended, refusal_by_messages, after_by_messages}
use Rattle.gj_session.proofs.session.drain.Goals as goal

pub messages-init : goal.messages-init
messages-init g c = record { goes = goes_none _ _ _ _ _; steady = λ s. s; others = refl }

pub returns-in-Refused-clause-drained : goal.returns-in-Refused-clause-drained
returns-in-Refused-clause-drained g c =
    let inv = c.messages.invariant in
    goes_ended c.loop_keeps.ensures.join _ _ _ _ _ _ _ _ c.args.framer.now.bytes c.messages.framer.bytes c.refuse.result inv.goes
    (refused_ended _ _ _ _ _ c.messages.framer.bytes c.in-Refused.why c.refuse.result c.in-Refused.ensures.says c.refuse.ensures.ends)

pub returns-in-Some-clause-drained : goal.returns-in-Some-clause-drained
returns-in-Some-clause-drained g c =
    let inv = c.messages.invariant in
    let said = c.in-Message.ensures.says in
    goes_ended c.loop_keeps.ensures.join _ _ _ _ _ _ _ _ c.args.framer.now.bytes c.messages.framer.bytes c.in-Some.end inv.goes
    (one_ended _ _ _ _ _ _ c.messages.framer.bytes said.0 (request c.in-Message.message) c.in-Some.end said.1 c.in-Some.ensures.answered)

pub messages-smaller : goal.messages-smaller
messages-smaller g c =
    let held = rw c.in-Message.is at c.take_next.follows.holds-at-none in
    c.one_front.ensures.shorter c.messages.framer.bytes (request c.in-Message.message) c.take_next.follows.lender-at-none.bytes held.0

pub messages-preserved : goal.messages-preserved
messages-preserved g c =
    let inv = c.messages.invariant in
    let held = rw c.in-Message.is at c.take_next.follows.holds-at-none in
    let answered = rw c.in_default.is at c.exchange.ensures.answered in
    record {
      goes = goes_goes c.loop_keeps.ensures.join _ _ _ _ _ _ _ _ c.args.framer.now.bytes c.messages.framer.bytes c.take_next.follows.lender-at-none.bytes inv.goes
          (one_goes _ _ _ _ _ _ c.messages.framer.bytes c.take_next.follows.lender-at-none.bytes (request c.in-Message.message) held.0 answered);
      steady = λ s. c.exchange.ensures.steady (inv.steady s);
      others = c.exchange.ensures.others ∙ inv.others;
    }

pub returns-in-Refused-clause-by_messages : goal.returns-in-Refused-clause-by_messages
returns-in-Refused-clause-by_messages g c = refusal_by_messages c.refuse.result _ _ _ c.refuse.ensures.ends

pub returns-in-Some-clause-by_messages : goal.returns-in-Some-clause-by_messages
returns-in-Some-clause-by_messages g c = after_by_messages c.in-Some.end _ _ _ _ c.in-Some.ensures.answered.after
