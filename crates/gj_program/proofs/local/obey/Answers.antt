use Rattle.gj_program.proofs.AskedLemmas.{does_lack}
use Rattle.gj_program.proofs.local.obey.Goals as goal

pub returns-in-Err-Memory-clause-does : goal.returns-in-Err-Memory-clause-does
returns-in-Err-Memory-clause-does g c = does_lack _ _ _ _
