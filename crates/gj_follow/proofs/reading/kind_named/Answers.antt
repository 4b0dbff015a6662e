use Rattle.gj_follow.proofs.KindLemmas.{kind_named-is}
use Rattle.gj_follow.proofs.reading.kind_named.Goals as goal

pub returns : goal.returns
returns c = kind_named-is c.args.text.now _ c.from_name.ensures.some c.from_name.ensures.none
