use Rattle.std.proofs.Common.{◌≡◌, refl}
use Rattle.gj_session.proofs.SeatLemmas.{PostSays, post_answers, post_enters}
use Rattle.gj_session.proofs.ToldLemmas.{told_apart, told_full}
use Rattle.gj_session.proofs.hall.accept.Goals as goal

pub returns : goal.returns
returns g c =
    let x = c.post-posted.ensures in
    let says : PostSays (c.post-posted.new.self ≡ c.args.writer.now) _ _ _ _ _ _ c.args.items c.post-posted.result = record {
      ok = x.ok;
      receipt = x.receipt;
      began = x.began;
      posted = x.posted;
      kept_unseen = x.kept_unseen;
      err = x.err;
      full = x.full;
      room = x.room;
      no_look = x.no_look;
      apart = x.apart;
      front = x.front;
      numbers = x.numbers;
      number = x.others.0;
      low = rw c.length-length.ensures.exact at c.length-length.ensures.in_range;
    } in
    rw (c.outcome_to.ensures, c.compact_posted.ensures) (record {
      answers = post_answers _ _ _ _ _ _ _ _ c.args.items c.post-posted.result says;
      history = post_enters _ _ _ _ _ _ _ c.args.items c.post-posted.result says;
      noted = x.others.1;
      later = x.later;
      full = told_full _ _ c.post-posted.result x.full (λ n p. (p n refl).0);
      apart = told_apart _ _ _ c.post-posted.result x.apart (λ seen shown posted counted p. (let is = p seen shown posted counted refl in (is.2, is.4)));
    })
