use Rattle.gj_session.proofs.BatchLemmas.{notes_answer, stale_of}
use Rattle.gj_session.proofs.accepting.accept_noted_on.Goals as goal

pub returns : goal.returns
returns g c =
    let x = c.post_noted.ensures in
    rw c.outcome_to_noted.ensures (record {
      answers = notes_answer _ _ c.args.asked.now c.post_noted.result (record {
        is = g.met.I.Index.is_window c.args.index.now;
        within = g.met.I.NotedIndex.within c.args.index.now c.args.asked.now.producer;
        exact = x.exact;
        ok = x.ok;
        receipt = x.receipt;
        in_range = x.in_range;
        shows = x.shows;
        full = x.full;
        count = x.count;
        steady = x.steady;
        conf = x.conf;
        noted = x.noted;
        keeps = x.keeps;
        stays = x.stays;
        others = x.others;
      });
      stale = stale_of _ c.post_noted.result x.exact;
    })
