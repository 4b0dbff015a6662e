use Rattle.gj_program.proofs.ServeLemmas.{does_lack}
use Rattle.gj_program.proofs.serving.obey.Goals as goal

pub returns-in-Err-Memory-clause-does : goal.returns-in-Err-Memory-clause-does
returns-in-Err-Memory-clause-does g c = does_lack _ _ _ _ _
