use Rattle.std.proofs.Common.{inl, inr, refl, sym}
use Rattle.gj_session.specs.declared.outcome.Outcome.TheVariants.{Says, Stands}
use Rattle.gj_session.proofs.sending.send_answer.Goals as goal

pub returns-in-Stands-clause-gave : goal.returns-in-Stands-clause-gave
returns-in-Stands-clause-gave g c =
    (Stands c.in-Stands.which, (inl (sym c.in-Stands.is), rw c.fixed_bytes.ensures at c.send_over.ensures.gave))

pub returns-in-Ok-clause-gave : goal.returns-in-Ok-clause-gave
returns-in-Ok-clause-gave g c =
    (Says c.in-Says.reply, (inl (sym c.in-Says.is), rw (c.deref.ensures.value, c.in-Ok.ensures) at c.send_over-in-Ok.ensures.gave))

pub returns-in-Err-clause-gave : goal.returns-in-Err-clause-gave
returns-in-Err-clause-gave g c =
    (Stands c.args.answer.now.lack, (inr refl, rw c.fixed_bytes-in-Err.ensures at c.send_over-in-Err.ensures.gave))
