use Rattle.std.proofs.Common.{◌<◌, ◌∙◌, length, get_or, arith, ap}
use Rattle.std.proofs.lemmas.List.{get_or_default}
use Rattle.gj_base.specs.declared.kind.Kind.TheVariants.{Click}
use Rattle.gj_compact.specs.declared.edge.Edge.{Edge}
use Rattle.gj_compact.specs.Lanes.{popped, run_of}
use Rattle.gj_compact.specs.Turns.{near}
use Rattle.gj_compact.proofs.TurnLemmas.{shed_none, shed_any, shed_more}
use Rattle.gj_compact.proofs.turns.shed.Goals as goal

pub loop-edge-init : goal.loop-edge-init
loop-edge-init c = shed_none c.args.lane.now c.args.side c.args.edges.now c.requires.begins

pub pop-requires-clause-any : goal.pop-requires-clause-any
pop-requires-clause-any c =
    let d : Edge = record { user = 0; post = 0; kind = Click; at = 0 } in
    let edges = c.args.edges.now in
    let x : Edge = get_or edges c.loop-edge.edge-index d in
    let so = c.loop-edge.invariant in
    let within : near c.args.side x < length c.loop-edge.lane.runs = omega (arith, c.requires.known c.loop-edge.edge-index d c.loop-edge-test.true, so.long) in
    let any = shed_any c.args.lane.now c.loop-edge.lane c.args.side edges c.loop-edge.edge-index x so c.loop-edge-test.true
    (get_or_default edges c.loop-edge.edge-index d x c.loop-edge-test.true) within in
    omega (arith, any, ap (λ n. length (run_of c.loop-edge.lane.runs n)) c.near.ensures)

pub loop-edge-preserved : goal.loop-edge-preserved
loop-edge-preserved c =
    let d : Edge = record { user = 0; post = 0; kind = Click; at = 0 } in
    let edges = c.args.edges.now in
    let x : Edge = get_or edges c.loop-edge.edge-index d in
    let so = c.loop-edge.invariant in
    let within : near c.args.side x < length c.loop-edge.lane.runs = omega (arith, c.requires.known c.loop-edge.edge-index d c.loop-edge-test.true, so.long) in
    shed_more c.args.lane.now c.loop-edge.lane c.pop.new.self c.args.side edges c.loop-edge.edge-index x so c.loop-edge-test.true
    (get_or_default edges c.loop-edge.edge-index d x c.loop-edge-test.true) within
    (c.pop.ensures ∙ ap (λ n. popped c.loop-edge.lane n) c.near.ensures)
