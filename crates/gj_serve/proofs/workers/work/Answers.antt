use Rattle.std.proofs.Common.{◌∙◌, rules, subst, sym}
use Rattle.gj_base.specs.declared.history.History.{History}
use Rattle.gj_publish.proofs.Histories.{begins_trans}
use Rattle.gj_serve.specs.Given.{HasServed}
use Rattle.gj_serve.proofs.GivenLemmas.{has_served}
use Rattle.gj_serve.proofs.workers.work.Goals as goal

pub give-requires-clause-served : goal.give-requires-clause-served
give-requires-clause-served g c κs within =
    let L = g.D.Link.Link in
    let done = c.serve_session-done in
    let served = has_served L.tells L.stream L.read_faults L.reads L.written L.write_faults L.sure g.J.Opening.conf
    c.loop.seat done.new.seat c.in-Link.link done.result c.in-Link.ensures.1 done.ensures.told done.ensures.run done.ensures.entered in
    subst (λ (h : History). HasServed L.tells L.stream L.read_faults L.reads L.written L.write_faults g.J.Opening.conf h done.result)
    (sym (c.again.ensures ∙ c.front.ensures)) served

pub loop-preserved : goal.loop-preserved
loop-preserved g c = record {
  can = tt;
  ends = tt;
  untold = search rules;
  all_back = search rules;
  in_range = search rules;
  number = search rules;
  later = begins_trans _ _ _ c.loop.invariant.later c.serve_session-done.ensures.seat.later;
  entered = search rules;
}
