use Rattle.gj_session.specs.IndexRuns.{index_at}
use Rattle.gj_session.proofs.EndLemmas.{come, gone}
use Rattle.gj_session.proofs.LoopLemmas.{replayed_as}
use Rattle.gj_session.proofs.RunLemmas.{index_ran}
use Rattle.gj_session.proofs.replaying.replay_session.Goals as goal

pub returns : goal.returns
returns g c =
    let run = c.run_session.ensures.replayed in
    let ran = index_ran g.row.I.Denot (λ x. index_at (g.I.Index.viewed x) (g.I.Index.keeps x) (g.I.Index.faults x) (g.I.Index.steady x) (g.I.NotedIndex.noted x)) c.args.index.now c.run_session.new.answerer in
    let in_by = come _ _ _ _ _ _ _ run in
    let out_by = gone _ _ _ _ _ run.ended.ends in
    record {
      replayed = replayed_as _ _ _ _ _ _ _ _ ran run;
      by_input = c.run_session.ensures.by_input;
      reads = in_by.reads;
      turned = in_by.turned;
      short = in_by.short;
      read_cause = in_by.rose;
      write_cause = out_by.rose;
      read_same = in_by.same;
      write_same = out_by.same;
      read_later = in_by.later;
      write_later = out_by.later;
      steady = c.run_session.ensures.steady;
      store_steady = λ sure. ((ran _ run.ended.answered.run).steady sure).1;
      room = out_by.room;
      read_told = in_by.told;
      write_told = out_by.told;
      conf = (ran _ run.ended.answered.run).same;
    }
