use Rattle.std.proofs.Common.{◌≡◌, ◌+◌, ◌∷◌, [], ◌++◌, length, min, ap, sym, ◌∙◌, arith, rules}
use Rattle.gj_follow.proofs.PageLemmas.{items_more, items_done}
use Rattle.gj_follow.proofs.paging.items_from.Goals as goal

pub loop-place-preserved : goal.loop-place-preserved
loop-place-preserved g c =
    let shown = g.G.Graph.shown c.args.graph.now in
    let pushed : c.push.new.self ≡ c.loop-place.items ++ c.item.result ∷ [] = search rules in
    record {
      low = omega arith;
      high = omega arith;
      items = pushed ∙ (ap (λ xs. xs ++ c.item.result ∷ []) c.loop-place.invariant.items
          ∙ sym (items_more shown.items shown.first c.args.from c.loop-place.place c.item.result c.requires.from_base c.loop-place.invariant.low c.item.ensures));
    }

pub returns : goal.returns
returns g c =
    let shown = g.G.Graph.shown c.args.graph.now in
    let at : c.loop-place.place ≡ min (shown.first + length shown.items) (c.args.from + 1000) = omega arith in
    record { exact = c.loop-place.invariant.items ∙ items_done shown.items shown.first c.args.from c.loop-place.place c.requires.from_base c.requires.to_end at }
