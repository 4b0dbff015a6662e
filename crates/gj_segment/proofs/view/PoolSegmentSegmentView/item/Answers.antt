use Rattle.std.proofs.Common.{◌<◌, List, length, slice_get, option_map, ap, sym, ◌∙◌, arith, Some}
use Rattle.std.proofs.lemmas.Option.{slice_get-map, slice_get-get_or}
use Rattle.gj_base.specs.declared.item.Item.{Item}
use Rattle.gj_base.specs.Numbered.{numbered}
use Rattle.gj_segment.specs.Segment.{Segment, plain}
use Rattle.gj_segment.specs.declared.edge.Edge.{Edge}
use Rattle.gj_segment.proofs.SegmentLemmas.{shown_numbered, shown_length}
use Rattle.gj_segment.proofs.view.PoolSegmentSegmentView.item.Goals as goal

pub returns : goal.returns
returns c =
    let edges = c.self.inside.edges.items in
    let below : c.args.i < length edges = omega (arith, c.requires, shown_length c.self.inside, ap (λ (s : Segment). length s.items) c.self.view_is) in
    ap (λ (s : Segment). slice_get (numbered s.items) c.args.i) (sym c.self.view_is)
    ∙ (ap (λ (l : List Item). slice_get l c.args.i) (shown_numbered c.self.inside c.self.invariant)
    ∙ (slice_get-map plain edges c.args.i ∙ (ap (option_map plain) (slice_get-get_or edges c.args.i c.index-edge.result.now below) ∙ ap (λ (x : Edge). Some (plain x)) (sym c.index-edge.ensures))))
