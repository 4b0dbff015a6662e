use Rattle.std.proofs.Common.{◌≡◌, ◌≤◌, ℕ, List, [], sym, ◌∙◌, ap, subst, arith, length}
use mathlib.Core.List.{IsPrefix}
use Rattle.gj_base.specs.declared.item.Entry.{Entry}
use Rattle.gj_log.specs.Rules.{next_nib}
use Rattle.gj_log.proofs.Adding.{confirms_moves}
use Rattle.gj_log.proofs.Fronts.{prefix_length, prefix_whole}
use Rattle.gj_log.proofs.pages.Pages.confirm.Goals as goal

pub compare_exchange-requires : goal.compare_exchange-requires
compare_exchange-requires g c =
    let h = c.self.invariant.0 in
    let offer = c.plain-offer.ensures in
    let nib : c.self.inside.pen.nib ≡ next_nib c.self.inside.lots = c.self.invariant.5 in
    let book = c.learn.ensures.0 ∙ (ap (λ s. s.book) c.again-both.ensures ∙ c.self.invariant.3) in
    let all : List (ℕ × List Entry) = c.learn.new.self.log in
    let mine : IsPrefix c.self.inside.seen.log all = subst (λ (l : List (ℕ × List Entry)). IsPrefix l all) (ap (λ s. s.log) c.again-both.ensures) c.learn.ensures.2 in
    let long : c.self.inside.lots ≤ length all = omega (arith, c.self.invariant.4, prefix_length c.self.inside.seen.log all mine) in (
      ap (λ w. w.tracked) h,
      book ∙ sym (ap (λ w. w.book) h),
      c.self.invariant.1 ∙ sym (ap (λ w. w.book) h),
      offer.0,
      rw (ap (λ w. w.key) h, nib, offer.3) (confirms_moves all (0, []) c.self.inside.lots long),
    )

pub returns-clause-begins : goal.returns-clause-begins
returns-clause-begins g c =
    let mine : List (ℕ × List Entry) = c.self.inside.seen.log in
    let all : List (ℕ × List Entry) = c.learn.new.self.log in
    let nib : c.self.inside.pen.nib ≡ next_nib c.self.inside.lots = c.self.invariant.5 in
    let found = c.compare_exchange.ensures in
    let begun : IsPrefix mine all = subst (λ (l : List (ℕ × List Entry)). IsPrefix l all) (ap (λ s. s.log) c.again-both.ensures) c.learn.ensures.2 in
    let few : length all ≤ length mine = omega (arith, found.7.2, ap (λ p. p.key) nib, c.self.invariant.4) in
    let same : mine ≡ all = prefix_whole mine all begun few in
    subst (λ (l : List (ℕ × List Entry)). IsPrefix c.args.other.now.log l) (sym same) c.learn.ensures.3
