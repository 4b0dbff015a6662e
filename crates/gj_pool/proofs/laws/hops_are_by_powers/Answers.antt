use Rattle.gj_pool.proofs.LevelLemmas.{hops_level}
use Rattle.gj_pool.proofs.laws.hops_are_by_powers.Goals as goal

pub returns-clause-reached : goal.returns-clause-reached
returns-clause-reached c i = (hops_level i).0

pub returns-clause-no_more : goal.returns-clause-no_more
returns-clause-no_more c i = (hops_level i).1
