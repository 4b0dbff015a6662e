use Rattle.std.proofs.Common.{◌≡◌, ◌∷◌, [], ap, sym, rules}
use Rattle.json.specs.Json.{number, string}
use Rattle.json.specs.Reads.{token_of}
use Rattle.gj_request.specs.PlainItems.{TakesPart}
use Rattle.gj_request.proofs.TakenLemmas.{if_some}
use Rattle.gj_request.proofs.plain_items.with_part.Goals as goal

pub returns-in_ok-spelled-in-Number : goal.returns-in_ok-spelled-in-Number
returns-in_ok-spelled-in-Number c =
    let same : c.as_bytes.result.now ≡ c.in-Number.text.now = search rules in
    if_some _ _ (TakesPart c.args.parts c.args.name.now (token_of c.args.value))
    (λ more adds. (number c.in-Number.text.now, ap (λ t. token_of t ∷ []) (sym c.in-Number.is), (c.in_ok-spelled-in-Number.field-0, rw same at c.in_ok-spelled-in-Number.ensures, adds)))
    c.with_number.ensures

pub returns-in_ok-from_name-in-String : goal.returns-in_ok-from_name-in-String
returns-in_ok-from_name-in-String c =
    if_some _ _ (TakesPart c.args.parts c.args.name.now (token_of c.args.value))
    (λ more adds. (string c.in-String.text.now, ap (λ t. token_of t ∷ []) (sym c.in-String.is), (c.in_ok-from_name-in-String.field-0, c.in_ok-from_name-in-String.ensures.some, adds)))
    c.with_kind.ensures
