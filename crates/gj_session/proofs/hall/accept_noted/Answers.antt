use Rattle.std.proofs.Common.{◌≡◌, ◌∙◌, ap, refl}
use Rattle.gj_once.specs.Judging.{judged}
use Rattle.gj_publish.specs.Writers.{WriterView, all_shown}
use Rattle.gj_session.proofs.NotedSeatLemmas.{NotedSays, known_of, noted_answers, noted_enters, notes_by, seat_noted}
use Rattle.gj_session.proofs.ToldLemmas.{told_apart_noted, told_full_noted}
use Rattle.gj_session.proofs.hall.accept_noted.Goals as goal

pub returns : goal.returns
returns g c =
    let x = c.post_noted-posted.ensures in
    let old = c.args.writer.now in
    let v = judged old.noted c.args.asked.producer c.args.asked.number in
    let says : NotedSays (c.post_noted-posted.new.self ≡ old) (c.post_noted-posted.new.self ≡ all_shown old) _ _ _ _ v _ _ c.args.asked c.post_noted-posted.result = record {
      exact = x.exact;
      ok = x.ok;
      receipt = x.receipt;
      began = x.began;
      posted = x.posted;
      kept_unseen = x.kept_unseen;
      repeated = x.repeated;
      shown = λ e. ap (λ (w : WriterView). w.accepted) e;
      err = x.err;
      full = x.full;
      room = x.room;
      no_look = x.no_look;
      apart = x.apart;
      front = x.front;
      numbers = x.numbers;
      number = x.others.0;
      low = rw c.length-length.ensures.exact at c.length-length.ensures.in_range;
    } in
    let outcome = noted_answers g.J.Opening.conf _ _ _ _ _ _ v _ _ c.args.asked c.post_noted-posted.result says in
    rw (c.outcome_to_noted.ensures, c.compact_noted.ensures) (record {
      answers = seat_noted _ old.noted _ _ c.args.asked _ outcome;
      judged = outcome.judged;
      known = known_of v c.post_noted-posted.result x.exact;
      noted = x.noted ∙ notes_by old.noted _ _ _ _ _ _ v _ _ c.args.asked c.post_noted-posted.result says;
      history = noted_enters _ _ _ _ _ _ v _ _ c.args.asked c.post_noted-posted.result says;
      later = x.later;
      full = told_full_noted _ _ c.post_noted-posted.result x.full (λ n p. (p n refl).0);
      apart = told_apart_noted _ _ _ c.post_noted-posted.result x.apart (λ seen shown posted counted p. (let is = p seen shown posted counted refl in (is.2, is.4)));
    })
