use Rattle.std.proofs.Common.{◌∙◌, sym}
use Rattle.gj_directory.proofs.PickLemmas.{marked_yes, marked_no}
use Rattle.gj_directory.proofs.picking.mark.Goals as goal

pub returns-in-Some-clause-marked : goal.returns-in-Some-clause-marked
returns-in-Some-clause-marked c = λ v below.
    marked_yes c.args.names.now.ids c.args.marks.now.items c.args.user c.in-Some.v v c.find.ensures.lawful.distinct c.requires (sym c.find.ensures.exact ∙ c.in-Some.is) below

pub returns-in_default-clause-marked : goal.returns-in_default-clause-marked
returns-in_default-clause-marked c = λ v below.
    marked_no c.args.names.now.ids c.args.marks.now.items c.args.user v c.find.ensures.lawful.distinct (sym c.find.ensures.exact ∙ c.in_default.is) below
