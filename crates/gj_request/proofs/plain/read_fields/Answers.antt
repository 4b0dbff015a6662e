use Rattle.std.proofs.Common.{◌∷◌, ◌∙◌, ap}
use Rattle.json.specs.Reads.{token_of}
use Rattle.gj_request.specs.Plain.{IsWhole}
use Rattle.gj_request.proofs.TakenLemmas.{if_some, field_taken, fields_taken}
use Rattle.gj_request.proofs.plain.read_fields.Goals as goal

pub returns-in-EndObject-clause-exact : goal.returns-in-EndObject-clause-exact
returns-in-EndObject-clause-exact c =
    let end = c.in_ok-name.ensures.value ∙ ap (λ t. token_of t ∷ c.next.new.self) c.in-EndObject.is in
    if_some _ (IsWhole c.loop.parts) _ (λ ask whole. fields_taken _ _ _ c.loop.parts ask end whole c.loop.invariant) c.whole.ensures.exact

pub loop-preserved : goal.loop-preserved
loop-preserved c =
    let name = c.in_ok-name.ensures.value ∙ ap (λ t. token_of t ∷ c.next.new.self) c.in-Key.is in
    field_taken _ _ _ _ c.loop.parts _ _ name c.in_ok-parts-in-Key.ensures c.loop.invariant
