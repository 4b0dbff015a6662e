use Rattle.std.proofs.Common.{arith}
use Rattle.gj_directory.proofs.PartLemmas.{known_back, begins_front, begins_back, shed_both}
use Rattle.gj_directory.proofs.parts.shed_parts.Goals as goal

pub shed-requires-clause-begins : goal.shed-requires-clause-begins
shed-requires-clause-begins c = begins_front c.args.lane.now c.args.side c.args.front.now c.args.back.now c.requires.begins

pub shed-requires-2-clause-known : goal.shed-requires-2-clause-known
shed-requires-2-clause-known c =
    known_back c.args.lane.now c.shed.new.lane c.args.side c.args.front.now c.args.back.now c.requires.known c.shed.ensures.long

pub shed-requires-2-clause-begins : goal.shed-requires-2-clause-begins
shed-requires-2-clause-begins c =
    begins_back c.args.lane.now c.shed.new.lane c.args.side c.args.front.now c.args.back.now c.requires.begins c.shed.ensures.long c.shed.ensures.runs

pub returns-clause-runs : goal.returns-clause-runs
returns-clause-runs c = λ v h.
    shed_both c.args.lane.now c.shed.new.lane c.shed-2.new.lane c.args.side c.args.front.now c.args.back.now v
    (c.shed.ensures.runs v h) (c.shed-2.ensures.runs v (omega (arith, h, c.shed.ensures.long)))
