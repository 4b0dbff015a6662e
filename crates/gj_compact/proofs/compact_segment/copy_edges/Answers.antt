use Rattle.std.proofs.Common.{◌≡◌, ◌<◌, List, [], ◌∷◌, ◌++◌, length, map, take, get_or, ap, sym, ◌∙◌, arith}
use Rattle.std.proofs.lemmas.List.{map-append, take_more, take_all}
use Rattle.std.proofs.lemmas.Option.{get_or_from_slice_get}
use Rattle.gj_base.specs.declared.item.Item.{Item}
use Rattle.gj_base.specs.Numbered.{numbered}
use Rattle.gj_compact.specs.declared.edge.Edge.{Edge}
use Rattle.gj_compact.specs.Turns.{plain}
use Rattle.gj_compact.proofs.CompactLemmas.{length-numbered}
use Rattle.gj_compact.proofs.compact_segment.copy_edges.Goals as goal

pub loop-i-preserved : goal.loop-i-preserved
loop-i-preserved g c =
    let items = g.V.SegmentView.listed c.args.from.now in
    let edge : Edge = record { user = c.item-user.result.0; post = c.item-user.result.1; kind = c.item-user.result.2; at = c.item-user.result.3 } in
    let below : c.loop-i.i < length (numbered items) = omega (arith, c.loop-i-test.true, c.len-i-end.ensures.exact, length-numbered items) in
    let here : get_or (numbered items) c.loop-i.i (plain edge) ≡ plain edge = get_or_from_slice_get (numbered items) c.loop-i.i (plain edge) (plain edge) c.item-user.ensures in
    record {
      items = ap (map plain) c.push_within.ensures.items ∙ (map-append plain c.loop-i.edges.items (edge ∷ [])
          ∙ (ap (λ (l : List Item). l ++ plain edge ∷ []) c.loop-i.invariant.items
          ∙ sym (take_more (numbered items) c.loop-i.i (plain edge) below ∙ ap (λ (x : Item). take c.loop-i.i (numbered items) ++ x ∷ []) here)));
      capacity = omega (arith, c.loop-i.invariant.capacity, c.push_within.ensures.capacity);
    }

pub returns-clause-items : goal.returns-clause-items
returns-clause-items g c =
    let items = g.V.SegmentView.listed c.args.from.now in
    c.loop-i.invariant.items ∙ take_all c.loop-i.i (numbered items) (omega (arith, c.loop-i-test.false, c.len-i-end.ensures.exact, length-numbered items))
