use Rattle.gj_publish_uses.proofs.Openings.{told_not_bare}
use Rattle.gj_publish_uses.proofs.day.not_bare.Goals as goal

pub returns : goal.returns
returns g c = told_not_bare (g.K.Keeper.kept c.args._keeper.now) (g.K.Keeper.untold c.args._keeper.now)
