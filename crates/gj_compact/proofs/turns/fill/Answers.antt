use Rattle.std.proofs.Common.{◌<◌, ◌∙◌, length, get_or, arith, ap}
use Rattle.std.proofs.lemmas.List.{get_or_default}
use Rattle.gj_base.specs.declared.kind.Kind.TheVariants.{Click}
use Rattle.gj_compact.specs.declared.edge.Edge.{Edge}
use Rattle.gj_compact.specs.declared.edge.End.{End}
use Rattle.gj_compact.specs.Lanes.{pushed}
use Rattle.gj_compact.specs.Turns.{near}
use Rattle.gj_compact.proofs.TurnLemmas.{filled_none, filled_room, filled_more}
use Rattle.gj_compact.proofs.turns.fill.Goals as goal

pub loop-edge-init : goal.loop-edge-init
loop-edge-init c = filled_none c.args.lane.now c.args.side c.args.edges.now c.requires.room

pub push-requires-clause-room : goal.push-requires-clause-room
push-requires-clause-room c =
    let d : Edge = record { user = 0; post = 0; kind = Click; at = 0 } in
    let edges = c.args.edges.now in
    let x : Edge = get_or edges c.loop-edge.edge-index d in
    let so = c.loop-edge.invariant in
    let within : near c.args.side x < length c.loop-edge.lane.runs = omega (arith, c.requires.known c.loop-edge.edge-index d c.loop-edge-test.true, so.long) in
    let room = filled_room c.args.lane.now c.loop-edge.lane c.args.side edges c.loop-edge.edge-index x c.loop-edge.invariant c.loop-edge-test.true
    (get_or_default edges c.loop-edge.edge-index d x c.loop-edge-test.true) within in
    omega (arith, room, ap (λ n. get_or c.loop-edge.lane.spare n 0) c.near.ensures)

pub loop-edge-preserved : goal.loop-edge-preserved
loop-edge-preserved c =
    let d : Edge = record { user = 0; post = 0; kind = Click; at = 0 } in
    let edges = c.args.edges.now in
    let x : Edge = get_or edges c.loop-edge.edge-index d in
    let so = c.loop-edge.invariant in
    let within : near c.args.side x < length c.loop-edge.lane.runs = omega (arith, c.requires.known c.loop-edge.edge-index d c.loop-edge-test.true, so.long) in
    filled_more c.args.lane.now c.loop-edge.lane c.push.new.self c.args.side edges c.loop-edge.edge-index x so c.loop-edge-test.true
    (get_or_default edges c.loop-edge.edge-index d x c.loop-edge-test.true) within
    (c.push.ensures ∙ (ap (λ n. pushed c.loop-edge.lane n c.across.result) c.near.ensures ∙ ap (λ (e : End). pushed c.loop-edge.lane (near c.args.side x) e) c.across.ensures))
