use Rattle.std.proofs.Common.{◌≡◌, ◌++◌, length, refl}
use Rattle.gj_window.proofs.PartLemmas.{parts_count}
use Rattle.gj_window.proofs.FieldLemmas.{none_at}
use Rattle.gj_window.proofs.segments.Segments.count.Goals as goal

pub returns-in-Some-clause-exact : goal.returns-in-Some-clause-exact
returns-in-Some-clause-exact c =
    let w = c.args.self.now in
    parts_count w.full (w.older ++ w.newest) c.args.side c.args.id c.args.mask _ _ c.degrees-full.ensures.full c.degrees-full.ensures.pooled

pub returns-in-None-clause-exact : goal.returns-in-None-clause-exact
returns-in-None-clause-exact c =
    none_at c.self.inside c.args.self.now c.args.side c.args.id c.args.mask c.self.view_is c.self.invariant.tied (c.find.ensures.absent c.in-None.is c.args.mask)
