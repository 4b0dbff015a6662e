use Rattle.std.proofs.Common.{◌≡◌, ◌∙◌, ◌<◌, ℕ, List, ap, sym, fold, length, take, get_or, [], arith}
use Rattle.std.proofs.lemmas.List.{take_more}
use Rattle.std.proofs.lemmas.List.Sums.{fold_more}
use Rattle.gj_base.proofs.FirstLemmas.{place_of-Some, length-with_id}
use Rattle.gj_subgraph.specs.Masses.{with_vertex, vertices}
use Rattle.gj_subgraph.proofs.NumberLemmas.{placed_push, take_whole}
use Rattle.gj_subgraph.proofs.PlaceLemmas.{with_same}
use Rattle.gj_subgraph.proofs.number.places_of.Goals as goal

pub loop-id-preserved : goal.loop-id-preserved
loop-id-preserved c =
    let side = c.args.side.now in
    let i = c.loop-id.id-index in
    let id = get_or side i 0 in
    let ids = c.loop-id.names.ids in
    let n = c.put.result in
    let grown : c.put.new.self.ids ≡ with_vertex ids id = c.put.ensures.ids ∙ with_same ids id c.loop-id.invariant.distinct in
    let at = place_of-Some c.put.new.self.ids id n c.put.ensures.place in
    let inside : n < length (with_vertex ids id) = rw grown at at.0 in
    let here : get_or (with_vertex ids id) n 0 ≡ id = rw grown at at.1 in
    record {
      names = grown ∙ ap (λ (l : List ℕ). with_vertex l id) c.loop-id.invariant.names ∙ sym (fold_more with_vertex [] side i 0 c.loop-id-test.true);
      distinct = c.put.ensures.lawful.distinct;
      few = omega (arith, ap length c.put.ensures.ids, (length-with_id ids id).1, c.loop-id.invariant.few);
      room = omega (arith, c.put.ensures.room, c.loop-id.invariant.room);
      places = rw (take_more side i 0 c.loop-id-test.true, grown, c.in_ok-push.ensures)
          (placed_push (take i side) ids c.loop-id.places.items id n c.loop-id.invariant.places inside here);
    }

pub returns-clause-names : goal.returns-clause-names
unfolding vertices
returns-clause-names c =
    c.in_ok-ids.ensures ∙ (c.loop-id.invariant.names ∙ ap (λ (l : List ℕ). fold with_vertex [] l) (take_whole c.loop-id.id-index c.args.side.now c.loop-id-test.false))

pub returns-clause-places : goal.returns-clause-places
returns-clause-places c =
    rw (c.in_ok-ids.ensures) (rw (take_whole c.loop-id.id-index c.args.side.now c.loop-id-test.false) at c.loop-id.invariant.places)
