use Rattle.std.proofs.Common.{◌∙◌}
use Rattle.gj_follow.proofs.ReadingLemmas.{names_by_keys}
use Rattle.gj_follow.proofs.table.are_known.Goals as goal

pub returns : goal.returns
returns c = c.has_known_keys.ensures ∙ names_by_keys c.args.table c.args.members.now.entries
