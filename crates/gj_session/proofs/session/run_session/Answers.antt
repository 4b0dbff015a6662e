use Rattle.gj_session.proofs.InputLemmas.{ends_by_input}
use Rattle.gj_session.proofs.session.run_session.Goals as goal

pub returns-clause-by_input : goal.returns-clause-by_input
returns-clause-by_input g c = λ t by.
    ends_by_input (record {
      feed = c.loop_keeps.ensures.feed;
      cut = c.loop_keeps.ensures.cut;
      begins = c.loop_keeps.ensures.begins;
      one = c.one_cut.ensures;
      refusal = c.beginnings.ensures.refusal;
    }) _ _ _ _ _ _ _ c.take_turns-end.ensures.replayed t by
