use Rattle.std.proofs.Common.{take}
use Rattle.gj_directory.specs.Picking.{AreMarks}
use Rattle.gj_directory.proofs.picking.marks_of.Given as goal

abbrev pub invariant-loop-user : goal.invariant-loop-user
invariant-loop-user l = AreMarks l.names.ids (take l.user-index l.users) l.marks.items
