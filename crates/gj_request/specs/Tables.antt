-- The tables of fields, and how an object is read by one. Own.
use Rattle.std.specs.Prelude.{ℕ, ◌++◌, ◌&&◌, Bool, true, false, List, [], ◌∷◌, map, if◌then◌else◌, Option, Some, None, Result, Ok, Err}
use Rattle.std.specs.List.{list_any}
use Rattle.std.specs.Str.{bytes_eq}
use Rattle.serde_json.specs.Data.{Data, Members, no_members, member}
use Rattle.serde_json.specs.Find.{get, as_object}
use Rattle.gj_base.specs.Interaction.{Interaction}
use Rattle.gj_base.specs.Kinds.{all_kinds}
use Rattle.gj_request.specs.Results.{◌>>=◌, formed}
use Rattle.gj_request.specs.Forms.{some_items, Content, Form, number, moment, id, truth, kind, ids, kinds, array_of, each}
use Rattle.gj_request.specs.Names.{name_text}
use Rattle.gj_request.specs.declared.name.Name.{Name}
use Rattle.gj_request.specs.declared.name.Name.TheVariants as names
use Rattle.gj_request.specs.declared.refusal.Reason.{Reason}
use Rattle.gj_request.specs.declared.refusal.Reason.TheVariants.{Field}

-- a field: its name, its form, and what stands for it where it is missing
pub record Row : Type 0 where
  pub name : Name
  pub form : Form
  pub default : Option (Content form.shape)

-- a field that has to be there
abbrev pub needed : Name → Form → Row
needed name form = record { name = name; form = form; default = None }

-- a field with a default
abbrev pub optional : Name → (form : Form) → Content form.shape → Row
optional name form default = record { name = name; form = form; default = Some default }

-- what a field says, by the value that an object has under its name
abbrev pub said : (row : Row) → Option Data → Result (Content row.form.shape) Reason
said row None = formed row.name row.default
said row (Some value) = row.form.reading row.name value

unfoldable pub field : (row : Row) → Data → Result (Content row.form.shape) Reason
field row value = said row (get (name_text row.name) value)

-- what is built of what each field of a table says
abbrev pub Builder : List Row → Type 0 → Type 0
Builder [] A = A
Builder (row ∷ rows) A = Content row.form.shape → Builder rows A

-- the fields of a table in order, and what is built of them
abbrev pub filled : {A : Type 0} (rows : List Row) → Builder rows A → Data → Result A Reason
filled [] built value = Ok built
filled (row ∷ rows) build value = do
  content ← field row value
  filled rows (build content) value

-- the text is that of one of these names
abbrev pub is_known : List Name → List ℕ → Bool
is_known known text = list_any (λ name. bytes_eq text (name_text name)) known

-- each name of an object passes
abbrev pub all_names : (List ℕ → Bool) → Members → Bool
all_names passes no_members = true
all_names passes (member text value members) = passes text && all_names passes members

-- the value, where it is an object with no other names than those that pass
abbrev pub object_with : Name → (List ℕ → Bool) → Data → Result Data Reason
object_with name passes value = do
  members ← formed name (as_object value)
  if all_names passes members then Ok value else Err (Field names.Unknown)

-- each name of an object is one of these
abbrev pub are_known : List Name → Members → Bool
are_known known = all_names (is_known known)

-- the value, where it is an object with no other names than these
unfoldable pub object_of : Name → List Name → Data → Result Data Reason
object_of name known = object_with name (is_known known)

-- what is built of an object by a table
abbrev pub read_by : {A : Type 0} (rows : List Row) → Builder rows A → Name → Data → Result A Reason
read_by rows build name value = do
  fields ← object_of name (map (λ row. row.name) rows) value
  filled rows build fields

-- an element of items
abbrev pub item_rows : List Row
item_rows = needed names.User id ∷ needed names.Post id ∷ needed names.Kind kind ∷ optional names.At moment 0 ∷ []

unfoldable pub item_of : Name → Data → Result Interaction Reason
item_of name = read_by item_rows (λ user post kind at. record { user = user; post = post; kind = kind; at = at }) name

-- one interaction more
unfoldable pub add_item : Name → List Interaction → Data → Result (List Interaction) Reason
add_item name earlier value = do
  x ← item_of name value
  Ok (earlier ++ x ∷ [])

-- interactions, in order
unfoldable pub items_of : Name → Data → Result (List Interaction) Reason
items_of name value = do
  list ← array_of 4096 name value
  each (add_item name) [] list

abbrev pub items : Form
items = record { shape = some_items; reading = items_of }

-- the fields of the bodies, in the order in which they are read
abbrev pub batch_rows : List Row
batch_rows =
    needed names.Items items
    ∷ optional names.Producer (number 0 1024) 0
    ∷ optional names.Number (number 0 281474976710656) 0
    ∷ []

abbrev pub walk_rows : List Row
walk_rows =
    needed names.Seeds ids
    ∷ needed names.Steps (number 1 100000)
    ∷ optional names.Seed (number 0 18446744073709551615) 0
    ∷ optional names.Kinds kinds all_kinds
    ∷ optional names.Reset (number 0 10000) 0
    ∷ optional names.Top (number 1 100) 10
    ∷ optional names.Proof (number 0 10) 3
    ∷ optional names.Hide truth false
    ∷ optional names.Since (number 0 281474976710656) 0
    ∷ optional names.NotBefore moment 0
    ∷ []

abbrev pub subgraph_rows : List Row
subgraph_rows =
    needed names.Seeds ids
    ∷ needed names.Iterations (number 1 20)
    ∷ optional names.Kinds kinds all_kinds
    ∷ optional names.Top (number 1 100) 10
    ∷ optional names.Proof (number 0 10) 3
    ∷ optional names.Since (number 0 281474976710656) 0
    ∷ optional names.NotBefore moment 0
    ∷ []

abbrev pub similar_rows : List Row
similar_rows =
    needed names.Post id
    ∷ needed names.Steps (number 1 100000)
    ∷ optional names.Seed (number 0 18446744073709551615) 0
    ∷ optional names.Kinds kinds all_kinds
    ∷ optional names.Top (number 1 100) 10
    ∷ optional names.Since (number 0 281474976710656) 0
    ∷ optional names.NotBefore moment 0
    ∷ []
