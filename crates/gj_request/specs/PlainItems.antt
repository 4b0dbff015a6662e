-- The plain form of interactions: which tokens of a JSON text stand for which. Own.
use Rattle.std.specs.Prelude.{◌≡◌, ℕ, ◌++◌, ◌≤◌, ◌⊎◌, ⊤, true, List, [], ◌∷◌, Some, None, unwrap_or}
use Rattle.json.specs.Token.{Token}
use Rattle.json.specs.Json as json
use Rattle.json.specs.Tree.{json_tokens, items_tokens, members_tokens}
use Rattle.gj_base.specs.declared.kind.Kind.{Kind}
use Rattle.gj_base.specs.Interaction.{Interaction}
use Rattle.gj_base.specs.Kinds.{kind_name}
use Rattle.gj_request.specs.Names.{name_text}
use Rattle.gj_request.specs.Requests.{are_digits, digits_value}
use Rattle.gj_request.specs.declared.name.Name.TheVariants as names
use Rattle.gj_request.specs.declared.plain_items.Parts.{Parts}

-- digits alone, which spell a number in range
abbrev pub Spells : List ℕ → ℕ → Type 0
Spells text n = (are_digits text ≡ true) × (digits_value text ≡ n) × (n ≤ 9223372036854775807)

-- the part of this name, which was not there before; the others stay
abbrev pub AddsNumber : Parts → List ℕ → ℕ → Parts → Type 0
AddsNumber old name n new =
    ((name ≡ name_text names.User) × (old.user ≡ None) × (new ≡ record old { user = Some n }))
    ⊎ (((name ≡ name_text names.Post) × (old.post ≡ None) × (new ≡ record old { post = Some n }))
    ⊎ ((name ≡ name_text names.At) × (old.at ≡ None) × (new ≡ record old { at = Some n })))

abbrev pub AddsKind : Parts → List ℕ → Kind → Parts → Type 0
AddsKind old name kind new = (name ≡ name_text names.Kind) × (old.kind ≡ None) × (new ≡ record old { kind = Some kind })

abbrev pub AddsPart : Parts → List ℕ → json.Json → Parts → Type 0
AddsPart old name (json.number text) new = (n : ℕ) × Spells text n × AddsNumber old name n new
AddsPart old name (json.string text) new = (kind : Kind) × (text ≡ kind_name kind) × AddsKind old name kind new
AddsPart old name _ new = ⊥

-- the parts of an interaction; no moment is 0
abbrev pub AreAll : Parts → Interaction → Type 0
AreAll parts x = (parts.user ≡ Some x.user) × (parts.post ≡ Some x.post) × (parts.kind ≡ Some x.kind) × (unwrap_or parts.at 0 ≡ x.at)

-- fields that add, one after another, the parts that are missing
abbrev pub Completes : Parts → json.Members → Interaction → Type 0
Completes parts json.no_members x = AreAll parts x
Completes parts (json.member name value fields) x = (more : Parts) × AddsPart parts name value more × Completes more fields x

abbrev pub no_parts : Parts
no_parts = record { user = None; post = None; kind = None; at = None }

-- an element: its fields in any order, each once
abbrev pub IsPlainItem : json.Json → Interaction → Type 0
IsPlainItem (json.object fields) x = Completes no_parts fields x
IsPlainItem _ x = ⊥

-- the elements in order
abbrev pub ArePlain : json.Items → List Interaction → Type 0
ArePlain json.no_items [] = ⊤
ArePlain (json.item value values) (x ∷ xs) = IsPlainItem value x × ArePlain values xs
ArePlain _ _ = ⊥

-- the token is the value of this name
abbrev pub TakesPart : Parts → List ℕ → Token → Parts → Type 0
TakesPart old name token new = (value : json.Json) × (json_tokens value ≡ token ∷ []) × AddsPart old name value new

-- the first tokens are the fields of an element up to its end, and `new` the rest
abbrev pub TakesItem : Parts → List Token → Interaction → List Token → Type 0
TakesItem parts old x new = (fields : json.Members) × (old ≡ members_tokens fields ++ new) × Completes parts fields x

-- the first tokens are elements up to the end of their array, and `new` the rest
abbrev pub TakesItems : List Token → List Interaction → List Token → Type 0
TakesItems old xs new = (values : json.Items) × (old ≡ items_tokens values ++ new) × ArePlain values xs
