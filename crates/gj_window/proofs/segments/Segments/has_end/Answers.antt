use Rattle.std.proofs.Common.{sym}
use Rattle.gj_window.proofs.FieldLemmas.{none_at}
use Rattle.gj_window.proofs.LeadsLemmas.{leads_nowhere}
use Rattle.gj_window.proofs.segments.Segments.has_end.Goals as goal

pub returns-in-None : goal.returns-in-None
returns-in-None c =
    sym (leads_nowhere _ c.args.other (none_at c.self.inside c.args.self.now c.args.side c.args.id c.args.mask c.self.view_is c.self.invariant.tied (c.find.ensures.absent c.in-None.is c.args.mask)))
