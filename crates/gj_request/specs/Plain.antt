-- The plain form of a batch: which tokens of a JSON text ask for which batch. Own.
use Rattle.std.specs.Prelude.{◌≡◌, ℕ, ◌++◌, ◌≤◌, ◌⊎◌, List, length, Some, None, unwrap_or, Ok}
use Rattle.json.specs.Token.{Token}
use Rattle.json.specs.Json as json
use Rattle.json.specs.Tree.{json_tokens, members_tokens}
use Rattle.gj_base.specs.declared.ask.Ask.{Ask}
use Rattle.gj_base.specs.Interaction.{Interaction}
use Rattle.gj_request.specs.Names.{name_text}
use Rattle.gj_request.specs.PlainItems.{Spells, ArePlain}
use Rattle.gj_request.specs.Requests.{batch_ask}
use Rattle.gj_request.specs.declared.name.Name.TheVariants as names
use Rattle.gj_request.specs.declared.plain.BatchParts.{BatchParts}

-- the part of this name, which was not there before; the others stay
abbrev pub AddsNumber : BatchParts → List ℕ → ℕ → BatchParts → Type 0
AddsNumber old name n new =
    ((name ≡ name_text names.Producer) × (old.producer ≡ None) × (new ≡ record old { producer = Some n }))
    ⊎ ((name ≡ name_text names.Number) × (old.number ≡ None) × (new ≡ record old { number = Some n }))

abbrev pub AddsItems : BatchParts → List ℕ → List Interaction → BatchParts → Type 0
AddsItems old name items new = (name ≡ name_text names.Items) × (old.items ≡ None) × (new ≡ record old { items = Some items })

abbrev pub AddsField : BatchParts → List ℕ → json.Json → BatchParts → Type 0
AddsField old name (json.number text) new = (n : ℕ) × Spells text n × AddsNumber old name n new
AddsField old name (json.array values) new = (items : List Interaction) × ArePlain values items × AddsItems old name items new
AddsField old name _ new = ⊥

-- the parts of a batch, in range; no producer and no number are 0
abbrev pub IsBatch : List Interaction → ℕ → ℕ → Ask → Type 0
IsBatch items producer number ask =
    (1 ≤ length items) × (length items ≤ 4096) × (producer ≤ 1024) × (number ≤ 281474976710656) × (batch_ask items producer number ≡ Ok ask)

-- the parts are a whole batch: its items are there, and a producer and a number that aren't are 0
abbrev pub IsWhole : BatchParts → Ask → Type 0
IsWhole parts ask = (items : List Interaction) × (parts.items ≡ Some items) × IsBatch items (unwrap_or parts.producer 0) (unwrap_or parts.number 0) ask

-- fields that add, one after another, the parts that are missing
abbrev pub Completes : BatchParts → json.Members → Ask → Type 0
Completes parts json.no_members ask = IsWhole parts ask
Completes parts (json.member name value fields) ask = (more : BatchParts) × AddsField parts name value more × Completes more fields ask

abbrev pub no_fields : BatchParts
no_fields = record { items = None; producer = None; number = None }

-- the tokens of a whole batch in the plain form: its fields in any order, each once
abbrev pub IsPlain : List Token → Ask → Type 0
IsPlain tokens ask = (fields : json.Members) × (tokens ≡ json_tokens (json.object fields)) × Completes no_fields fields ask

-- the first tokens are the value of this name, and `new` the rest
abbrev pub TakesField : BatchParts → List ℕ → List Token → BatchParts → List Token → Type 0
TakesField parts name old more new = (value : json.Json) × (old ≡ json_tokens value ++ new) × AddsField parts name value more

-- the first tokens are the fields of a batch up to its end, and `new` the rest
abbrev pub TakesFields : BatchParts → List Token → Ask → List Token → Type 0
TakesFields parts old ask new = (fields : json.Members) × (old ≡ members_tokens fields ++ new) × Completes parts fields ask
