use Rattle.std.proofs.Common.{arith}
use Rattle.gj_directory.proofs.PartLemmas.{known_back, room_front, room_back, runs_both}
use Rattle.gj_directory.proofs.parts.fill_parts.Goals as goal

pub fill-requires-clause-room : goal.fill-requires-clause-room
fill-requires-clause-room c = room_front c.args.lane.now c.args.side c.args.front.now c.args.back.now c.requires.room

pub fill-requires-2-clause-known : goal.fill-requires-2-clause-known
fill-requires-2-clause-known c =
    known_back c.args.lane.now c.fill.new.lane c.args.side c.args.front.now c.args.back.now c.requires.known c.fill.ensures.long

pub fill-requires-2-clause-room : goal.fill-requires-2-clause-room
fill-requires-2-clause-room c =
    room_back c.args.lane.now c.fill.new.lane c.args.side c.args.front.now c.args.back.now c.requires.room c.fill.ensures.long c.fill.ensures.spare

pub returns-clause-runs : goal.returns-clause-runs
returns-clause-runs c = λ v h.
    runs_both c.args.lane.now c.fill.new.lane c.fill-2.new.lane c.args.side c.args.front.now c.args.back.now v
    (c.fill.ensures.runs v h) (c.fill-2.ensures.runs v (omega (arith, h, c.fill.ensures.long)))
