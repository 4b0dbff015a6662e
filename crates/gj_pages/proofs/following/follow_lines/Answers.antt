use Rattle.gj_pages.proofs.EndLemmas.{all_done, come, ends_by_input, gone}
use Rattle.gj_pages.proofs.RunLemmas.{followed_lack}
use Rattle.gj_pages.proofs.following.follow_lines.Goals as goal

pub returns-in_default-clause-followed : goal.returns-in_default-clause-followed
returns-in_default-clause-followed g c = followed_lack _ _ _ c.args.turns

pub returns : goal.returns
returns g c =
    let run = c.take_turns.ensures.followed in
    let in_by = come _ _ _ _ _ _ _ _ run in
    let out_by = gone _ _ _ _ _ _ _ run.ended.ends in
    record {
      followed = run;
      by_input = ends_by_input _ _ _ _ _ _ _ _ run;
      wrote = λ tells told e. (all_done _ _ _ _ _ _ _ _ run tells e).wrote told;
      stands = λ h start tells e. (all_done _ _ _ _ _ _ _ _ run tells e).stands h start;
      later = run.ended.grown.later;
      reads = in_by.reads;
      turned = in_by.turned;
      short = in_by.short;
      read_cause = in_by.rose;
      write_cause = out_by.rose;
      read_same = in_by.same;
      write_same = out_by.same;
      read_later = in_by.later;
      write_later = out_by.later;
      steady = c.take_turns.ensures.steady;
      room = out_by.room;
      read_told = in_by.told;
      write_told = out_by.told;
    }
