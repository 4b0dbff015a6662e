-- Which JSON texts are pages. Own.
use Rattle.std.specs.Prelude.{◌≡◌, ℕ, ◌+◌, ◌&&◌, ◌||◌, nat_le, Bool, true, false, if◌then◌else◌, List, [], ◌∷◌, ◌++◌, length, codes, find, Option, Some, None, option_and_then, Result, Ok, Err}
use Rattle.std.specs.Str.{bytes_eq, is_utf8}
use Rattle.serde_json.specs.Data.{Data, Items, no_items, item, Members, no_members, member}
use Rattle.serde_json.specs.Events.{items_len}
use Rattle.serde_json.specs.Find.{get, as_number, as_u64, as_str, as_array, as_object}
use Rattle.serde_json.specs.Read.{read}
use Rattle.gj_base.specs.declared.kind.Kind.{Kind}
use Rattle.gj_base.specs.declared.kind.Kind.TheVariants.{Click, Favorite, Retweet, Reply, Tweet}
use Rattle.gj_base.specs.Interaction.{Interaction}
use Rattle.gj_base.specs.Kinds.{kind_name}
use Rattle.gj_follow.specs.Pages.{Paged}
use Rattle.gj_follow.specs.declared.table.Table.{Table}
use Rattle.gj_follow.specs.declared.table.Table.TheVariants.{APage, AnItem}
use Rattle.gj_follow.specs.declared.reading.PageRefusal.{PageRefusal}
use Rattle.gj_follow.specs.declared.reading.PageRefusal.TheVariants.{Json, Shape, Memory}

-- the first step, and then the second over its value
infixl 10 ◌>>=◌
abbrev pub ◌>>=◌ : {A B : Type 0} → Option A → (A → Option B) → Option B
None >>= f = None
(Some x) >>= f = f x

-- the JSON value that a text is
unfoldable pub tree_of : List ℕ → Option Data
tree_of text = if is_utf8 text then read text else None

-- the text is one of a table's names
abbrev pub knows : Table → List ℕ → Bool
knows APage text = bytes_eq text (codes "length") || bytes_eq text (codes "from") || bytes_eq text (codes "items")
knows AnItem text = bytes_eq text (codes "user") || bytes_eq text (codes "post") || bytes_eq text (codes "kind") || bytes_eq text (codes "at")

-- each name of an object is one of a table's
abbrev pub all_known : Table → Members → Bool
all_known table no_members = true
all_known table (member text value members) = knows table text && all_known table members

-- the object has no other names than a table's
abbrev pub has_names : Table → Option Members → Bool
has_names table None = false
has_names table (Some members) = all_known table members

-- the value is an object with no other names than a table's
unfoldable pub is_object_of : Table → Data → Bool
is_object_of table value = has_names table (as_object value)

-- the number up to the most that an object has under a name
unfoldable pub number_at : List ℕ → ℕ → Data → Option ℕ
number_at name most value = do
  field ← get name value
  n ← option_and_then as_u64 (as_number field)
  if nat_le n most then Some n else None

-- the kind that a text names
abbrev pub kind_named : List ℕ → Option Kind
kind_named text = find (λ kind. bytes_eq text (kind_name kind)) (Click ∷ Favorite ∷ Retweet ∷ Reply ∷ Tweet ∷ [])

-- the kind that an object has under a name
unfoldable pub kind_at : List ℕ → Data → Option Kind
kind_at name value = do
  field ← get name value
  text ← as_str field
  kind_named text

-- what the fields of an interaction say
abbrev pub item_fields : Data → Option Interaction
item_fields value = do
  user ← number_at (codes "user") 9223372036854775807 value
  post ← number_at (codes "post") 9223372036854775807 value
  kind ← kind_at (codes "kind") value
  at ← number_at (codes "at") 9223372036854775807 value
  Some (record { user = user; post = post; kind = kind; at = at })

-- an interaction
unfoldable pub item_of : Data → Option Interaction
item_of value = if is_object_of AnItem value then item_fields value else None

-- the earlier interactions, and those of the elements in order
abbrev pub items_after : List Interaction → Items → Option (List Interaction)
items_after earlier no_items = Some earlier
items_after earlier (item value values) = do
  x ← item_of value
  items_after (earlier ++ x ∷ []) values

-- the interactions of an array with at most 1000 elements, which an object has under a name
unfoldable pub items_at : List ℕ → Data → Option (List Interaction)
items_at name value = do
  field ← get name value
  list ← as_array field
  if nat_le (items_len list) 1000 then items_after [] list else None

-- the page of these, where its items lie within the history
abbrev pub paged : ℕ → ℕ → List Interaction → Option Paged
paged total from items = if nat_le (from + length items) total then Some (record { total = total; from = from; items = items }) else None

-- what the fields of a page say
abbrev pub page_fields : Data → Option Paged
page_fields value = do
  total ← number_at (codes "length") 281474976710656 value
  from ← number_at (codes "from") 281474976710656 value
  items ← items_at (codes "items") value
  paged total from items

-- a page
unfoldable pub page_read : Data → Option Paged
page_read value = if is_object_of APage value then page_fields value else None

-- a page, or a refusal
abbrev pub shaped : Option Paged → Result Paged PageRefusal
shaped None = Err Shape
shaped (Some page) = Ok page

-- what a text is read as
abbrev pub reading_of : Option Data → Result Paged PageRefusal
reading_of None = Err Json
reading_of (Some tree) = shaped (page_read tree)

-- the answer is the one that was to come, or want of memory
abbrev pub Gives : Result Paged PageRefusal → Result Paged PageRefusal → Type 0
Gives given (Ok page) = given ≡ Ok page
Gives given (Err Json) = given ≡ Err Json
Gives given (Err Shape) = given ≡ Err Shape
Gives given (Err Memory) = Unit {0}

-- the refusal is for the shape, where there is no value, or want of memory
abbrev pub RefusesShape : {A : Type 0} → Option A → PageRefusal → Type 0
RefusesShape given Json = ⊥
RefusesShape given Shape = given ≡ None
RefusesShape given Memory = Unit {0}

-- the answer is the value that there is, or a refusal of its shape where there is none, or want of memory
abbrev pub Shapes : {A : Type 0} → Option A → Result A PageRefusal → Type 0
Shapes given (Ok x) = given ≡ Some x
Shapes given (Err why) = RefusesShape given why
