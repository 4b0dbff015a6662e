use Rattle.std.proofs.Common.{◌∙◌}
use Rattle.gj_request.specs.Counts.{is_kind}
use Rattle.gj_request.proofs.NamesLemmas.{names_by_keys}
use Rattle.gj_request.proofs.least.are_kinds.Goals as goal

pub returns : goal.returns
returns c = c.has_kind_keys.ensures ∙ names_by_keys is_kind c.args.members.now.entries
