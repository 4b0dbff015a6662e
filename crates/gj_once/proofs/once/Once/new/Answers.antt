use Rattle.std.proofs.Common.{◌≡◌, ℕ, List, sym, subst}
use Rattle.gj_once.specs.declared.verdict.LastBatch.{LastBatch}
use Rattle.gj_once.specs.Judging.{last_of, no_batch, nothing_noted}
use Rattle.gj_once.proofs.JudgingLemmas.{nothing_of}
use Rattle.gj_once.proofs.once.Once.new.Goals as goal

pub returns-in-Ok : goal.returns-in-Ok
unfolding nothing_noted
returns-in-Ok c = record {
  exact = c.in-Ok.ensures.items_if_clones_equal (λ y e. e);
  each =
      let P : List LastBatch → Type 0 = λ lasts. (producer : ℕ) → last_of lasts producer ≡ no_batch in
      subst P (sym (c.in-Ok.ensures.items_if_clones_equal (λ y e. e))) nothing_of;
}
