use Rattle.std.proofs.Common.{◌≡◌, ◌<◌, ◌≤◌, length, arith}
use Rattle.gj_window.specs.Segments.{items_of}
use Rattle.gj_window.proofs.PartLemmas.{ends_few}
use Rattle.gj_window.proofs.window.WindowGraph.edge.Goals as goal

pub overflow_cast-i : goal.overflow_cast-i
overflow_cast-i c =
    omega (arith, c.requires, c.len-room.ensures.exact, c.len-room.ensures.in_range, ends_few (items_of c.args.self.now.segments) c.args.side c.args.id c.args.mask)
