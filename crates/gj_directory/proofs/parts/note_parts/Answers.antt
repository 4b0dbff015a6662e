use Rattle.std.proofs.Common.{length, arith, ap}
use Rattle.gj_directory.proofs.PartLemmas.{known_back, length-ends}
use Rattle.gj_directory.proofs.parts.note_parts.Goals as goal

pub note_all-requires-2-clause-known : goal.note_all-requires-2-clause-known
note_all-requires-2-clause-known c =
    known_back c.args.lane.now c.note_all.new.lane c.args.side c.args.front.now c.args.back.now c.requires.known (ap length c.note_all.ensures.runs)

pub returns-clause-fresh : goal.returns-clause-fresh
returns-clause-fresh c = λ v h.
    let first = c.note_all.ensures.fresh v h in
    let second = c.note_all-2.ensures.fresh v (omega (arith, h, ap length c.note_all.ensures.runs)) in
    omega (arith, first, second, length-ends c.args.front.now c.args.back.now c.args.side v)
