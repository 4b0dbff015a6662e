use Rattle.gj_pool.proofs.LevelLemmas.{level_by_log}
use Rattle.gj_pool.proofs.levels.links_to.Goals as goal

pub returns : goal.returns
returns c = level_by_log c.args.place c.ilog2.result c.ilog2.ensures.power_le c.ilog2.ensures.next_power_gt
