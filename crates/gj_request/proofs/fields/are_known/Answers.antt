use Rattle.std.proofs.Common.{◌∙◌}
use Rattle.gj_request.specs.Tables.{is_known}
use Rattle.gj_request.proofs.NamesLemmas.{names_by_keys}
use Rattle.gj_request.proofs.fields.are_known.Goals as goal

pub returns : goal.returns
returns c = c.has_known_keys.ensures ∙ names_by_keys (is_known c.args.table.now) c.args.members.now.entries
