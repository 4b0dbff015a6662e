use Rattle.std.proofs.Common.{ℕ, List, length, map, take, arith, ap, ◌∙◌, length-take}
use Rattle.gj_base.specs.Firsts.{with_id}
use Rattle.gj_base.specs.Numbered.{vertices_of}
use Rattle.gj_base.specs.Ends.{vertex_on}
use Rattle.gj_base.proofs.FirstLemmas.{distinct-firsts}
use Rattle.gj_compact.proofs.CompactLemmas.{few-vertices, with_id-next}
use Rattle.gj_compact.proofs.part.name_all.Goals as goal

pub put-place-requires : goal.put-place-requires
put-place-requires g c none =
    let items = g.V.SegmentView.listed c.args.from.now in
    let few = few-vertices items c.args.side in
    let ids = ap length c.loop-v.invariant.ids in
    omega (arith, few, ids, length-take c.loop-v.v (vertices_of items c.args.side), c.loop-v-test.true, c.vertices-v-end.ensures.exact, c.requires.room, c.loop-v.invariant.room)

pub loop-v-preserved : goal.loop-v-preserved
loop-v-preserved g c =
    let ids = vertices_of (g.V.SegmentView.listed c.args.from.now) c.args.side in
    let next = with_id-next ids c.loop-v.v (distinct-firsts (map (vertex_on c.args.side) (g.V.SegmentView.listed c.args.from.now)))
    (omega (arith, c.loop-v-test.true, c.vertices-v-end.ensures.exact)) in
    record {
      ids = c.put-place.ensures.ids ∙ (ap (λ (l : List ℕ). with_id l c.id_of.result) c.loop-v.invariant.ids
          ∙ (ap (with_id (take c.loop-v.v ids)) c.id_of.ensures ∙ next));
      room = c.put-place.ensures.room ∙ c.loop-v.invariant.room;
    }
