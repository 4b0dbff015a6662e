use Rattle.gj_names.proofs.Seating.{next_seated, next_absent}
use Rattle.gj_names.proofs.table.Table.reseat.Goals as goal

pub unreachable-requires : goal.unreachable-requires
unreachable-requires c =
    next_absent c.args.ids.now c.args.place _ c.requires.distinct c.requires.inside c.in-Held.ensures

pub returns-clause-table : goal.returns-clause-table
returns-clause-table c =
    next_seated _ _ c.args.ids.now c.args.place c.in-Free.at c.requires.table c.requires.inside c.requires.few c.requires.distinct c.in-Free.ensures.1
