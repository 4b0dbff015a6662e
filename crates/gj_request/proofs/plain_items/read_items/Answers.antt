use Rattle.std.proofs.Common.{◌≡◌, ◌∷◌, ◌++◌, [], ◌∙◌, ap, rules}
use Rattle.json.specs.Reads.{token_of}
use Rattle.gj_request.proofs.TakenLemmas.{more_taken, items_taken}
use Rattle.gj_request.proofs.plain_items.read_items.Goals as goal

pub returns-in-EndArray : goal.returns-in-EndArray
returns-in-EndArray c =
    let end = c.in_ok-next.ensures.value ∙ ap (λ t. token_of t ∷ c.next.new.self) c.in-EndArray.is in
    items_taken _ _ _ c.loop.items end c.loop.invariant

pub loop-preserved : goal.loop-preserved
loop-preserved c =
    let x = c.in_ok-read_item-in-BeginObject.field-0 in
    let first = c.in_ok-next.ensures.value ∙ ap (λ t. token_of t ∷ c.next.new.self) c.in-BeginObject.is in
    let pushed : c.push.new.self ≡ c.loop.items ++ x ∷ [] = search rules in
    rw pushed (more_taken _ _ _ _ c.loop.items x first c.in_ok-read_item-in-BeginObject.ensures c.loop.invariant)
