use Rattle.std.proofs.Common.{◌≡◌, ◌+◌, List, [], ◌∷◌, ◌++◌, take, sym, ap, ◌∙◌}
use Rattle.std.proofs.lemmas.List.{append_assoc}
use Rattle.gj_base.specs.declared.keeper.KeptItem.{KeptItem}
use Rattle.gj_base.specs.Kept.{placed, row_of}
use Rattle.gj_keep.proofs.HistoryLemmas.{placed_more}
use Rattle.gj_keep.proofs.memory_keeper.push_rows.Goals as goal

pub loop-i-preserved : goal.loop-i-preserved
loop-i-preserved c =
    let before : List KeptItem = c.args.rows.now.items in
    let some : List KeptItem = placed c.args.from (take c.loop-i.i c.args.items.now) in
    let here : c.loop-i.rows.items ++ c.row_at.result ∷ [] ≡ (before ++ some) ++ row_of (c.args.from + c.loop-i.i) c.index-items-i.result ∷ [] =
    (λ j. c.loop-i.invariant j ++ c.row_at.ensures j ∷ []) in
    c.in_default.ensures.ok ∙ (here ∙ (append_assoc before some (row_of (c.args.from + c.loop-i.i) c.index-items-i.result ∷ [])
    ∙ ap (λ (rs : List KeptItem). before ++ rs) (sym (placed_more c.args.from c.loop-i.i c.args.items.now c.index-items-i.result c.loop-i-test.true c.index-items-i.is))))
