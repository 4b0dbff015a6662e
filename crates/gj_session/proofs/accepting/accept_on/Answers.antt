use Rattle.std.proofs.Common.{refl}
use Rattle.gj_session.proofs.BatchLemmas.{posts_answer}
use Rattle.gj_session.proofs.accepting.accept_on.Goals as goal

pub returns : goal.returns
returns g c = λ noted.
    let x = rw c.as_slice.ensures at c.post_items.ensures in
    rw c.outcome_to.ensures
    (posts_answer _ _ c.args.items.now c.post_items.result (record {
      is = g.met.I.Index.is_window c.args.index.now;
      ok = x.ok;
      receipt = x.receipt;
      in_range = x.in_range;
      full = x.full;
      count = x.count;
      steady = x.steady;
      err = x.err;
      shows = x.shows;
      stays = x.stays;
      conf = x.conf;
      noted = refl;
    }))
