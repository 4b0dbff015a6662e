use Rattle.std.proofs.Common.{◌≡◌, ◌<◌, length, arith}
use Rattle.gj_window.proofs.FieldLemmas.{none_at}
use Rattle.gj_window.proofs.segments.Segments.edge.Goals as goal

pub unreachable-requires : goal.unreachable-requires
unreachable-requires c =
    let none = none_at c.self.inside c.args.self.now c.args.side c.args.id c.args.mask c.self.view_is c.self.invariant.tied (c.find.ensures.absent c.in-None.is c.args.mask) in
    omega (arith, none, c.requires)
