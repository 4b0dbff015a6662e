use Rattle.std.proofs.Common.{◌≡◌, ◌<◌, length, get_or, rules}
use Rattle.gj_subgraph.proofs.NumberLemmas.{stands_at, with_there}
use Rattle.gj_subgraph.proofs.number.number_of.Goals as goal

pub returns-in-Some-clause-names : goal.returns-in-Some-clause-names
returns-in-Some-clause-names c =
    let inside : c.in-Some.number < length c.args.names.now.items = search rules in
    let here : get_or c.args.names.now.items c.in-Some.number 0 ≡ c.args.id = search rules in
    with_there c.args.names.now.items c.args.id (stands_at c.args.names.now.items c.in-Some.number c.args.id inside here)
