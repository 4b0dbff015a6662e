use Rattle.gj_directory.proofs.SideLemmas.{side_empty}
use Rattle.gj_directory.proofs.half.Half.new.Goals as goal

pub returns-clause-empty : goal.returns-clause-empty
returns-clause-empty c = λ side.
    side_empty c.in_ok-names.names c.in_ok-lane.lane side c.args.names c.in_ok-names.ensures.empty c.in_ok-names.ensures.room c.in_ok-lane.ensures.runs c.in_ok-lane.ensures.fresh
