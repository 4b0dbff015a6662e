use Rattle.gj_pool.proofs.LevelLemmas.{spent_small}
use Rattle.gj_pool.proofs.laws.spent_is_small.Goals as goal

pub returns : goal.returns
returns c = record { small = spent_small }
