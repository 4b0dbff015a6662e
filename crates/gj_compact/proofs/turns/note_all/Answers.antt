use Rattle.std.proofs.Common.{◌<◌, ◌∙◌, length, get_or, arith, ap}
use Rattle.std.proofs.lemmas.List.{get_or_default}
use Rattle.gj_base.specs.declared.kind.Kind.TheVariants.{Click}
use Rattle.gj_compact.specs.declared.edge.Edge.{Edge}
use Rattle.gj_compact.specs.Lanes.{noted}
use Rattle.gj_compact.specs.Turns.{near}
use Rattle.gj_compact.proofs.NoteLemmas.{noted_none, notes_few, noted_more}
use Rattle.gj_compact.proofs.turns.note_all.Goals as goal

pub loop-edge-init : goal.loop-edge-init
loop-edge-init c = noted_none c.args.lane.now c.args.side c.args.edges.now

pub note-requires-clause-few : goal.note-requires-clause-few
note-requires-clause-few c =
    let d : Edge = record { user = 0; post = 0; kind = Click; at = 0 } in
    let edges = c.args.edges.now in
    let x : Edge = get_or edges c.loop-edge.edge-index d in
    let so = c.loop-edge.invariant in
    let within : near c.args.side x < length c.loop-edge.lane.fresh = omega (arith, c.requires.known c.loop-edge.edge-index d c.loop-edge-test.true, so.wide, c.requires.wide) in
    omega (
      arith,
      notes_few c.loop-edge.lane.fresh (near c.args.side x) within,
      so.total,
      c.requires.few,
      c.loop-edge-test.true,
      ap (λ n. get_or c.loop-edge.lane.fresh n 0) c.near.ensures,
    )

pub loop-edge-preserved : goal.loop-edge-preserved
loop-edge-preserved c =
    let d : Edge = record { user = 0; post = 0; kind = Click; at = 0 } in
    let edges = c.args.edges.now in
    let x : Edge = get_or edges c.loop-edge.edge-index d in
    let so = c.loop-edge.invariant in
    let within : near c.args.side x < length c.loop-edge.lane.runs = omega (arith, c.requires.known c.loop-edge.edge-index d c.loop-edge-test.true, ap length so.runs) in
    noted_more c.args.lane.now c.loop-edge.lane c.note.new.self c.args.side edges c.loop-edge.edge-index x so c.loop-edge-test.true
    (get_or_default edges c.loop-edge.edge-index d x c.loop-edge-test.true) c.requires.wide within
    (c.note.ensures ∙ ap (λ n. noted c.loop-edge.lane n) c.near.ensures)
