use Rattle.json.specs.Lex.{tokens}
use Rattle.gj_request.specs.Plain.{IsPlain}
use Rattle.gj_request.proofs.PlainBatchLemmas.{plain_asked}
use Rattle.gj_request.proofs.TakenLemmas.{if_some}
use Rattle.gj_request.proofs.plain.read_plain.Goals as goal

pub returns-in-Ok-clause-exact : goal.returns-in-Ok-clause-exact
returns-in-Ok-clause-exact c =
    let text = c.in-Ok.ensures.cases in
    if_some _ (IsPlain (tokens c.in-Ok.text.now)) _ (λ ask plain. plain_asked _ ask text.1 (rw text.0 at plain)) c.read_text.ensures.exact
