use Rattle.std.proofs.Common.{◌≡◌, ◌∙◌, List, ap, arith, sym, subst}
use Rattle.gj_base.specs.declared.history.History.{History}
use Rattle.gj_base.specs.Configuration.{Configuration}
use Rattle.gj_base.specs.History.{conf_of}
use Rattle.gj_keep.specs.Books.{Keeps}
use Rattle.gj_keep.specs.Locals.{LocalKeeps}
use Rattle.gj_once.specs.declared.verdict.LastBatch.{LastBatch}
use Rattle.gj_once.specs.Judging.{last_of, no_batch}
use Rattle.gj_once.proofs.JudgingLemmas.{nothing_of}
use Rattle.gj_session.proofs.LoopLemmas.{replayed_as}
use Rattle.gj_program.proofs.ReplayLemmas.{conf_told, pick_opening, ran_as, ran_from, rose_same, row_told}
use Rattle.gj_program.proofs.replaying.replay_over.Goals as goal

pub new-index-requires : goal.new-index-requires
new-index-requires g c = record {
  within = λ producer.
      let none : last_of c.args.tools.once producer ≡ no_batch = ap (λ (lasts : List LastBatch). last_of lasts producer) c.args.tools.fresh ∙ nothing_of producer in
      let at_none = ap (λ (b : LastBatch). b.receipt.to) none in
      omega (arith, at_none);
}

pub returns-in-Ok-clause-session : goal.returns-in-Ok-clause-session
returns-in-Ok-clause-session g c = λ session.
    let conf = c.args.conf in
    let index = c.in-Ok.index in
    let once = c.new-index.result in
    let is : index ≡ once.index = sym c.new-index.ensures.index in
    let after = c.replay_session-end.new.index.index in
    let kept = g.K.Keeper.kept c.args.keeper in
    let left = g.K.Keeper.kept c.into_keeper.result in
    let made = c.in-Ok.ensures in
    let at = pick_opening conf kept (λ h. LocalKeeps (g.W.Graph.shown index.graph) index.book h) made.keeps made.told made.bare (g.K.Keeper.untold c.args.keeper) in
    let opens = subst (λ local. LocalKeeps (g.W.Graph.shown local.graph) local.book at.0) is at.1.0 in
    let conf_of_once = rw is at made.conf.1 in
    let back : after ≡ c.into_index.result = sym c.into_index.ensures.exact in
    let conf_is : c.into_index.result.book.conf ≡ conf = sym c.into_index.result.configured ∙ ap (λ local. conf_of (g.W.Graph.shown local.graph)) (sym back) ∙ c.replay_session-end.ensures.conf ∙ conf_of_once in
    let keeps : (h : History) → LocalKeeps (g.W.Graph.shown after.graph) after.book h → Keeps conf left h
    = λ h k. subst (λ (x : Configuration). Keeps x left h) conf_is (c.into_keeper.ensures.keeps h (subst (λ local. LocalKeeps (g.W.Graph.shown local.graph) local.book h) back k)) in
    record {
      opening = at.0;
      opened = at.1.1;
      end = c.replay_session-end.result;
      status_is = c.status_of.ensures.exact;
      replayed = replayed_as _ _ _ _ _ _ _ _
          (λ es ran. ran_as conf at.0 (Keeps conf left) (Keeps conf left) once.index.book.faults after.book.faults _ _ once.index.book.steady _ es (λ h k. k)
          (λ n. rose_same n once.index.book.faults after.book.faults _ _ (rw is at made.count) (ap (λ local. local.book.faults) back ∙ sym c.into_keeper.ensures.same.1)) (rw is at made.steady)
          (ran_from conf at.0 _ _ (Keeps conf left) es conf_of_once (c.new-index.ensures.once ∙ c.args.tools.fresh) opens.0 opens keeps ran))
          c.replay_session-end.ensures.replayed;
      by_input = c.replay_session-end.ensures.by_input;
    }

pub returns-in-Err-clause-differs : goal.returns-in-Err-clause-differs
returns-in-Err-clause-differs g c = λ kept now e.
    let differ = c.in-Err.ensures.differs kept now (conf_told _ kept now (sym c.status_of_refusal.ensures.exact ∙ e)) in
    (differ.0, differ.1)

pub returns-in-Err-clause-bad : goal.returns-in-Err-clause-bad
returns-in-Err-clause-bad g c = λ row e. c.in-Err.ensures.bad row (row_told _ row (sym c.status_of_refusal.ensures.exact ∙ e))
