use Rattle.std.proofs.Common.{◌≡◌, ◌++◌, take, filter}
use Rattle.gj_directory.specs.Picking.{is_marked}
use Rattle.gj_directory.specs.Sides.{items_of}
use Rattle.gj_directory.proofs.picking.pick_marked.Given as goal

abbrev pub invariant-loop-edge : goal.invariant-loop-edge
invariant-loop-edge l =
    l.picked.items ≡ l.initial.picked.items ++ items_of l.users.ids l.posts.ids (filter (is_marked l.marks l.mask) (take l.edge-index l.edges))
