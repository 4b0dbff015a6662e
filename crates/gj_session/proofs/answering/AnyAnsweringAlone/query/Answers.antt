use Rattle.std.proofs.Common.{◌≡◌, true, refl, inl, ap, ◌∙◌}
use Rattle.gj_session.specs.declared.outcome.Outcome.TheVariants.{Says}
use Rattle.gj_session.specs.AnsweringLaws.{uncounts_reply, rose_none, moves_none}
use Rattle.gj_session.specs.Marks.{mark_at}
use Rattle.gj_session.specs.Outcomes.{is_store}
use Rattle.gj_session.specs.Reference.{reply_of}
use Rattle.gj_session.proofs.AskLemmas.{plain_reply}
use Rattle.gj_session.proofs.answering.AnyAnsweringAlone.query.Goals as goal

pub returns-in-Ok-clause-exact : goal.returns-in-Ok-clause-exact
returns-in-Ok-clause-exact g c =
    let x = c.args.self.now in
    let q = c.args.query.now in
    let exact : c.in-Ok.reply ≡ reply_of q (g.I.Index.viewed x) = c.in-Ok.ensures.exact ∙ ap (reply_of q) c.view.ensures in
    record {
      same = refl;
      answers = λ h seat shows. (h, ((inl (moves_none true (mark_at seat h (g.I.NotedIndex.noted x)), inl (ap Says (exact ∙ ap (reply_of q) shows))), refl), record { shows = shows; keeps = λ kept. kept }));
      stores = rw exact (rose_none (is_store (Says (reply_of q (g.I.Index.viewed x)))) (g.I.Index.faults x) (uncounts_reply _ (plain_reply q (g.I.Index.viewed x))).store);
      steady = λ sure. (rw exact (uncounts_reply _ (plain_reply q (g.I.Index.viewed x))).store, sure);
    }
