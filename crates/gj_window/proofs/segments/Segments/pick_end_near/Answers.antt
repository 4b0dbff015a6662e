use Rattle.std.proofs.Common.{sym}
use Rattle.gj_base.proofs.DrawLemmas.{end_picked_none}
use Rattle.gj_window.proofs.FieldLemmas.{none_at}
use Rattle.gj_window.proofs.segments.Segments.pick_end_near.Goals as goal

pub returns-in-None-clause-exact : goal.returns-in-None-clause-exact
returns-in-None-clause-exact c =
    sym (end_picked_none _ _ (sym (none_at c.self.inside c.args.self.now c.args.side c.args.id c.args.mask c.self.view_is c.self.invariant.tied (c.find_near.ensures.absent c.in-None.is c.args.mask))))
