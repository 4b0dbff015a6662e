use Rattle.std.proofs.Common.{◌∙◌, [], ◌∷◌, ◌++◌, refl, append-nil, sym}
use Rattle.gj_pages.proofs.GoingLemmas.{done_in, goes_in, line_in, long_in, none_in, rest_in}
use Rattle.gj_pages.proofs.following.take_piece.Goals as goal

pub lines-init : goal.lines-init
lines-init g c = ([], refl, λ a o bytes x. none_in a _ o _ bytes _ x)

pub returns-in_default-put-clause-fed : goal.returns-in_default-put-clause-fed
returns-in_default-put-clause-fed g c = λ a o bytes x.
    let inv = c.lines.invariant in
    let cut = c.in-Some.cut in
    long_in a _ o _ bytes inv.0 _ c.args.piece.now c.lines.line cut.part.now (10 ∷ cut.next.now) inv.1 c.in-Some.ensures.cut (inv.2 a o bytes x)
    c.in-Some.ensures.first c.in_default-put.ensures.long

pub returns-in-Err-clause-fed : goal.returns-in-Err-clause-fed
returns-in-Err-clause-fed g c = λ a o bytes x.
    let inv = c.lines.invariant in
    let cut = c.in-Some.cut in
    line_in (Unit {0}) a _ _ o _ _ bytes inv.0 _ c.args.piece.now c.lines.line cut.part.now c.as_slice.result.now cut.next.now c.in-Err.end inv.1 c.in-Some.ensures.cut (inv.2 a o bytes x)
    c.in-Some.ensures.first (c.as_slice.ensures ∙ c.in-Ok.ensures.ok) c.in-Ok.ensures.room c.in-Err.ensures

pub lines-preserved : goal.lines-preserved
lines-preserved g c =
    let inv = c.lines.invariant in
    let cut = c.in-Some.cut in
    let taken = rw c.in_default-answer_line.is at c.answer_line.ensures in (
      (inv.0 ++ cut.part.now) ++ 10 ∷ [],
      done_in inv.0 cut.part.now cut.next.now _ c.args.piece.now inv.1 c.in-Some.ensures.cut,
      λ a o bytes x. goes_in a _ _ o _ _ bytes inv.0 c.lines.line cut.part.now c.as_slice.result.now _ (inv.2 a o bytes x)
          c.in-Some.ensures.first (c.as_slice.ensures ∙ c.in-Ok.ensures.ok) c.in-Ok.ensures.room c.clear.ensures taken.0 taken.1,
    )

pub returns-in-Ok-put-clause-fed : goal.returns-in-Ok-put-clause-fed
returns-in-Ok-put-clause-fed g c = λ a o bytes x.
    let inv = c.lines.invariant in
    rest_in a _ o _ bytes inv.0 c.lines.rest.now c.args.piece.now c.lines.line _ inv.1 (inv.2 a o bytes x) c.in_default.ensures.first c.in-Ok-put.ensures.ok c.in-Ok-put.ensures.room

pub returns-in-Err-put-clause-fed : goal.returns-in-Err-put-clause-fed
returns-in-Err-put-clause-fed g c = λ a o bytes x.
    let inv = c.lines.invariant in
    long_in a _ o _ bytes inv.0 c.lines.rest.now c.args.piece.now c.lines.line c.lines.rest.now [] inv.1 (sym (append-nil c.lines.rest.now)) (inv.2 a o bytes x)
    c.in_default.ensures.first c.in-Err-put.ensures.long
