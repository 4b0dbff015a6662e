use Rattle.std.proofs.Common.{◌≡◌, ◌∷◌, ◌∙◌, ap, rules}
use Rattle.json.specs.Json.{number, array}
use Rattle.json.specs.Reads.{token_of}
use Rattle.json.specs.Token.{begin_array}
use Rattle.gj_request.specs.Plain.{TakesField}
use Rattle.gj_request.proofs.TakenLemmas.{if_some}
use Rattle.gj_request.proofs.plain.with_field.Goals as goal

pub returns-in_ok-spelled-in-Number : goal.returns-in_ok-spelled-in-Number
returns-in_ok-spelled-in-Number c =
    let text = c.in-Number.text.now in
    let same : c.as_bytes.result.now ≡ text = search rules in
    let first = c.in_ok-text.ensures.value ∙ ap (λ t. token_of t ∷ c.next.new.self) c.in-Number.is in
    if_some _ _ (λ more. TakesField c.args.parts c.args.name.now c.args.reader.now more c.next.new.self)
    (λ more adds. (number text, first, (c.in_ok-spelled-in-Number.field-0, rw same at c.in_ok-spelled-in-Number.ensures, adds)))
    c.with_number.ensures

pub returns-in_ok-read_items-in-BeginArray : goal.returns-in_ok-read_items-in-BeginArray
returns-in_ok-read_items-in-BeginArray c =
    let first = c.in_ok-text.ensures.value ∙ ap (λ t. token_of t ∷ c.next.new.self) c.in-BeginArray.is in
    let taken = c.in_ok-read_items-in-BeginArray.ensures in
    if_some _ _ (λ more. TakesField c.args.parts c.args.name.now c.args.reader.now more c.read_items.new.reader)
    (λ more adds. (array taken.0, first ∙ ap (λ ts. begin_array ∷ ts) taken.1, (c.in_ok-read_items-in-BeginArray.field-0, taken.2, adds)))
    c.with_items.ensures
