use Rattle.gj_request.proofs.KindLemmas.{kind_named-is}
use Rattle.gj_request.proofs.forms.kind_named.Goals as goal

pub returns : goal.returns
returns c = kind_named-is c.args.text.now _ c.from_name.ensures.some c.from_name.ensures.none
