use Rattle.std.proofs.Common.{inl, refl, arith}
use Rattle.gj_session.proofs.LoopLemmas.{replayed_as}
use Rattle.gj_program.proofs.ReplayLemmas.{ran_as}
use Rattle.gj_program.proofs.replaying.replay_bare.Goals as goal

pub returns-clause-does : goal.returns-clause-does
returns-clause-does g c = λ a. let over = c.replay_over-status.ensures in record {
  session = λ s. (let h = over.session s in record {
    opening = h.opening;
    opened = h.opened.bare refl;
    end = h.end;
    status_is = h.status_is;
    replayed = replayed_as _ _ _ _ _ _ _ _
        (λ es ran. ran_as c.args.conf h.opening _ _ _ _ 0 0 _ _ es (λ x k. tt) (λ n rose. rose) (λ s. s) ran)
        h.replayed;
    by_input = h.by_input;
  });
  judged = (over.bare refl, λ e. (let rose = over.store_cause e in absurd (omega (arith, rose))));
  differs = over.differs;
  bad = over.bad;
  asked = over.asked;
  kept = λ no yes. inl refl;
}
