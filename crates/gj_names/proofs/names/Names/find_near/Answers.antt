use Rattle.std.proofs.Common.{◌≡◌, ◌<◌, ◌∙◌, length, get_or, ap, sym, arith}
use Rattle.std.proofs.lemmas.List.{get_or_default}
use Rattle.gj_base.specs.Firsts.{place_of}
use Rattle.gj_base.proofs.FirstLemmas.{place_of-at}
use Rattle.gj_names.specs.Named.{Named}
use Rattle.gj_names.proofs.names.Names.find_near.Goals as goal

-- what stands there is the identifier, whose place is the only one
pub returns-then-index-id-clause-exact : goal.returns-then-index-id-clause-exact
returns-then-index-id-clause-exact c =
    let ids = c.self.inside.ids.items in
    let below : c.args.place < length ids = omega arith in
    let here : get_or ids c.args.place 0 ≡ c.args.id =
    get_or_default ids c.args.place 0 c.index.result.now below ∙ (sym c.index.ensures ∙ c.if-index-id.true)
    in
    sym (place_of-at ids c.args.id c.args.place c.self.invariant.table.distinct below here)
    ∙ ap (λ (n : Named). place_of n.ids c.args.id) c.self.view_is
