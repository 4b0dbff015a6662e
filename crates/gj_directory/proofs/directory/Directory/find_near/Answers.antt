use Rattle.std.proofs.Common.{◌∙◌, List, ℕ, ap, sym}
use Rattle.gj_base.specs.Firsts.{place_of}
use Rattle.gj_directory.specs.declared.half.Half.{Half}
use Rattle.gj_directory.specs.Directories.{ids_of}
use Rattle.gj_directory.proofs.ShowLemmas.{own_ids, found_told, absent_told}
use Rattle.gj_directory.proofs.directory.Directory.find_near.Goals as goal

pub returns-clause-held : goal.returns-clause-held
returns-clause-held c =
    let own = ap (λ (h : Half). place_of h.names.ids c.args.id) c.half_of.ensures in
    found_told (ids_of c.args.self.now c.args.side) c.args.id c.find_near.result
    (c.find_near.ensures.exact ∙ (own ∙ ap (λ (l : List ℕ). place_of l c.args.id) (own_ids c.self.inside c.args.self.now c.args.side c.self.view_is)))

pub returns-clause-absent : goal.returns-clause-absent
returns-clause-absent c = λ none mask.
    let own = ap (λ (h : Half). place_of h.names.ids c.args.id) c.half_of.ensures in
    absent_told c.self.inside c.args.self.now c.args.side c.args.id mask c.self.invariant c.self.view_is (sym own ∙ (sym c.find_near.ensures.exact ∙ none))
