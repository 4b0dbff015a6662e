use Rattle.std.proofs.Common.{sym, ◌∙◌, ap}
use Rattle.gj_log.proofs.Adding.{reserves_moves}
use Rattle.gj_log.proofs.pages.room.Goals as goal

pub compare_exchange-found-requires : goal.compare_exchange-found-requires
compare_exchange-found-requires c =
    let h = c.requires.head in
    let offer = c.plain-offer.ensures in
    let pen = c.no_pen-pen.ensures in
    let book = ap (λ s. s.book) c.again-met.ensures ∙ sym (ap (λ w. w.book) h) in (
      ap (λ w. w.tracked) h,
      book,
      pen.0 ∙ book,
      offer.0,
      rw (ap (λ w. w.key) h, pen.1, offer.3) (reserves_moves c.again-met.result.log c.args.number),
    )
