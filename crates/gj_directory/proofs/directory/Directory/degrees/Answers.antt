use Rattle.std.proofs.Common.{◌∙◌, count_by, get_or, ap}
use Rattle.gj_compact.specs.Blocks.{lets_through}
use Rattle.gj_compact.specs.Lanes.{run_of}
use Rattle.gj_directory.specs.declared.half.Half.{Half}
use Rattle.gj_directory.proofs.ShowLemmas.{count_told, notes_told}
use Rattle.gj_directory.proofs.directory.Directory.degrees.Goals as goal

pub returns-clause-full : goal.returns-clause-full
returns-clause-full c =
    c.count_in.ensures ∙ (ap (λ (h : Half). count_by (lets_through c.args.mask) (run_of h.lane.runs c.args.v)) c.half_of-half.ensures
    ∙ count_told c.self.inside c.args.self.now c.args.side c.args.v c.args.mask c.self.invariant c.self.view_is c.requires)

pub returns-clause-fresh : goal.returns-clause-fresh
returns-clause-fresh c =
    c.fresh.ensures ∙ (ap (λ (h : Half). get_or h.lane.fresh c.args.v 0) c.half_of-half.ensures
    ∙ notes_told c.self.inside c.args.self.now c.args.side c.args.v c.self.invariant c.self.view_is c.requires)
