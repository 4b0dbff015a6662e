use Rattle.std.proofs.Common.{arith}
use Rattle.gj_ids.proofs.Probing.{table_empty}
use Rattle.gj_ids.proofs.table.Table.clear.Goals as goal

pub returns-else-self-clause-empty : goal.returns-else-self-clause-empty
returns-else-self-clause-empty c =
    table_empty _ _ _ c.requires.size c.requires.shifted
    (λ j. let old = c.requires.older j in omega (arith, old))
