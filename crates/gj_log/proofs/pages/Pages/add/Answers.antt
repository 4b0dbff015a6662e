use Rattle.std.proofs.Common.{◌≡◌, sym, ◌∙◌, ap}
use Rattle.gj_log.specs.Rules.{next_nib}
use Rattle.gj_log.proofs.Adding.{adds_moves}
use Rattle.gj_log.proofs.pages.Pages.add.Goals as goal

pub compare_exchange-requires : goal.compare_exchange-requires
compare_exchange-requires g c =
    let h = c.self.invariant.0 in
    let offer = c.plain-offer.ensures in
    let nib : c.self.inside.pen.nib ≡ next_nib c.self.inside.lots = c.self.invariant.5 in (
      ap (λ w. w.tracked) h,
      c.self.invariant.3 ∙ sym (ap (λ w. w.book) h),
      c.self.invariant.1 ∙ sym (ap (λ w. w.book) h),
      offer.0,
      rw (ap (λ w. w.key) h, nib, offer.1, offer.3 ∙ c.requires.plain) (adds_moves c.self.inside.seen.log _ c.self.inside.lots (sym c.self.invariant.4)),
    )
