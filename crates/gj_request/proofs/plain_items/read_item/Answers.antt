use Rattle.std.proofs.Common.{◌∷◌, ◌∙◌, ap}
use Rattle.json.specs.Reads.{token_of}
use Rattle.gj_request.specs.PlainItems.{AreAll}
use Rattle.gj_request.proofs.TakenLemmas.{if_some, part_taken, item_taken}
use Rattle.gj_request.proofs.plain_items.read_item.Goals as goal

pub returns-in-EndObject : goal.returns-in-EndObject
returns-in-EndObject c =
    let end = c.in_ok-name.ensures.value ∙ ap (λ t. token_of t ∷ c.next.new.self) c.in-EndObject.is in
    if_some _ (AreAll c.loop.parts) _ (λ x all. item_taken _ _ _ c.loop.parts x end all c.loop.invariant) c.item_of.ensures

pub loop-preserved : goal.loop-preserved
loop-preserved c =
    let name = c.in_ok-name.ensures.value ∙ ap (λ t. token_of t ∷ c.next.new.self) c.in-Key.is in
    part_taken _ _ _ _ c.loop.parts _ _ _ name c.in_ok-next-in-Key.ensures.value c.in_ok-parts-in-Key.ensures c.loop.invariant
