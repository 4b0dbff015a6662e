use Rattle.gj_directory.proofs.PickLemmas.{parts_read, edges_told}
use Rattle.gj_directory.proofs.directory.Directory.edges_of.Goals as goal

pub pick_marked-requires-clause-users : goal.pick_marked-requires-clause-users
pick_marked-requires-clause-users c = (parts_read c.self.inside c.as_slices.result.0.now c.as_slices.result.1.now c.self.invariant c.as_slices.ensures.items).0.users

pub pick_marked-requires-clause-posts : goal.pick_marked-requires-clause-posts
pick_marked-requires-clause-posts c = (parts_read c.self.inside c.as_slices.result.0.now c.as_slices.result.1.now c.self.invariant c.as_slices.ensures.items).0.posts

pub pick_marked-requires-clause-sane : goal.pick_marked-requires-clause-sane
pick_marked-requires-clause-sane c = (parts_read c.self.inside c.as_slices.result.0.now c.as_slices.result.1.now c.self.invariant c.as_slices.ensures.items).0.sane

pub pick_marked-requires-2-clause-users : goal.pick_marked-requires-2-clause-users
pick_marked-requires-2-clause-users c = (parts_read c.self.inside c.as_slices.result.0.now c.as_slices.result.1.now c.self.invariant c.as_slices.ensures.items).1.users

pub pick_marked-requires-2-clause-posts : goal.pick_marked-requires-2-clause-posts
pick_marked-requires-2-clause-posts c = (parts_read c.self.inside c.as_slices.result.0.now c.as_slices.result.1.now c.self.invariant c.as_slices.ensures.items).1.posts

pub pick_marked-requires-2-clause-sane : goal.pick_marked-requires-2-clause-sane
pick_marked-requires-2-clause-sane c = (parts_read c.self.inside c.as_slices.result.0.now c.as_slices.result.1.now c.self.invariant c.as_slices.ensures.items).1.sane

pub returns : goal.returns
returns c =
    edges_told c.self.inside c.args.self.now c.args.users.now c.in_ok-marks.marks.items c.args.mask c.as_slices.result.0.now c.as_slices.result.1.now
    c.new-picked.result.items c.pick_marked.new.picked.items c.pick_marked-2.new.picked.items c.self.invariant c.self.view_is c.in_ok-marks.ensures c.as_slices.ensures.items c.new-picked.ensures.items
    (rw (← c.deref.ensures.value) c.in_ok-pick_marked.ensures) (rw (← c.deref-2.ensures.value) c.in_ok-pick_marked-2.ensures)
