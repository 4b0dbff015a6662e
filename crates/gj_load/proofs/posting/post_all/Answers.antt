use Rattle.std.proofs.Common.{◌≡◌, ◌∙◌, ◌≤◌, ◌+◌, ap, sym, subst, arith, rules, ℕ, List, Err}
use Rattle.gj_base.specs.Causes.{faults_posted}
use Rattle.gj_base.specs.declared.item.Item.{Item}
use Rattle.gj_base.specs.declared.history.History.{History}
use Rattle.gj_base.specs.History.{end_of, entries_by, extend}
use Rattle.gj_load.specs.Totals.{history_of}
use Rattle.gj_load.specs.Workload.{number_after, items_from}
use Rattle.gj_load.proofs.TotalsLemmas.{next_history, end_is}
use Rattle.gj_load.proofs.WorkloadLemmas.{after_none, after_after, items_none}
use Rattle.gj_load.proofs.posting.post_all.Goals as goal

pub loop-done-init : goal.loop-done-init
loop-done-init g c = record {
  keeps = subst (λ (items : List Item). g.I.Index.keeps c.args.index.now (history_of items)) (sym (items_none c.args.number)) c.requires.empty;
  number = sym (after_none c.args.number);
  posted = omega arith;
  few = omega arith;
  conf = search rules;
  faults = search rules;
}

pub loop-done-preserved : goal.loop-done-preserved
loop-done-preserved g c =
    let inv = c.loop-done.invariant in
    let done = c.loop-done.done in
    let batch = c.min-batch.result in
    let history : extend (history_of (items_from c.args.number done)) (entries_by 0 (items_from c.loop-done.x batch)) ≡ history_of (items_from c.args.number (done + batch))
    = next_history c.args.number done batch c.loop-done.x inv.number in
    record {
      keeps = subst (λ (h : History). g.I.Index.keeps c.post_batch.new.index h) history (c.in-Ok.ensures.ok (history_of (items_from c.args.number done)) inv.keeps);
      number = c.in-Ok.ensures.number ∙ ap (λ n. number_after n batch) inv.number ∙ sym (after_after c.args.number done batch);
      posted = omega arith;
      few = omega arith;
      conf = c.post_batch.ensures.conf ∙ inv.conf;
      faults = c.in-Ok.ensures.count ∙ inv.faults;
    }

pub returns-in-Err-clause-full : goal.returns-in-Err-clause-full
returns-in-Err-clause-full g c = λ n e.
    let index = c.loop-done.index in
    let inv = c.loop-done.invariant in
    let stands = g.met.I.Index.stands index (history_of (items_from c.args.number c.loop-done.done)) inv.keeps in
    let end = end_is (g.I.Index.viewed index) c.args.number c.loop-done.done (g.met.I.Index.is_window index).configuration.segments_low stands in
    let over = c.in-Err.ensures.full n e in
    omega (arith, end, over)

pub returns-in-Err-clause-err : goal.returns-in-Err-clause-err
returns-in-Err-clause-err g c =
    let inv = c.loop-done.invariant in
    (c.loop-done.done, omega arith, c.in-Err.ensures.err (history_of (items_from c.args.number c.loop-done.done)) inv.keeps)

pub returns-in-Err-clause-count : goal.returns-in-Err-clause-count
returns-in-Err-clause-count g c = c.in-Err.ensures.count ∙ ap (λ n. faults_posted {T = ℕ} n (Err c.in-Err.why)) c.loop-done.invariant.faults
