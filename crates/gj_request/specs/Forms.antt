-- The forms of fields: which JSON values have a form, and what they say. Own.
use Rattle.std.specs.Prelude.{ℕ, ◌++◌, ◌==◌, ◌&&◌, nat_le, not, Bool, List, [], ◌∷◌, Option, Some, None, option_and_then, find, Result, Ok, Err}
use Rattle.std.specs.List.{list_any}
use Rattle.std.specs.Str.{bytes_eq}
use Rattle.serde_json.specs.Data.{Data, Items, no_items, item}
use Rattle.serde_json.specs.Events.{items_len}
use Rattle.serde_json.specs.Find.{as_number, as_u64, as_bool, as_str, as_array}
use Rattle.gj_base.specs.declared.kind.Kind.{Kind}
use Rattle.gj_base.specs.declared.kind.Kind.TheVariants.{Click, Favorite, Retweet, Reply, Tweet}
use Rattle.gj_base.specs.Asks.{Least}
use Rattle.gj_base.specs.Interaction.{Interaction}
use Rattle.gj_base.specs.Filter.{Filter}
use Rattle.gj_base.specs.Kinds.{kind_name, one_kind, with_kind}
use Rattle.gj_request.specs.Results.{◌>>=◌, formed, ranged}
use Rattle.gj_request.specs.declared.name.Name.{Name}
use Rattle.gj_request.specs.declared.refusal.Reason.{Reason}
use Rattle.gj_request.specs.declared.refusal.Reason.TheVariants.{Range}
use Rattle.gj_request.specs.declared.seeds.WeightedSeeds.{WeightedSeeds}

-- a number from the least to the most
unfoldable pub number_of : ℕ → ℕ → Name → Data → Result ℕ Reason
number_of least most name value = do
  n ← formed name (option_and_then as_u64 (as_number value))
  ranged name (nat_le least n && nat_le n most) n

-- an identifier of a user or a post
abbrev pub id_of : Name → Data → Result ℕ Reason
id_of = number_of 0 9223372036854775807

-- true or false
unfoldable pub truth_of : Name → Data → Result Bool Reason
truth_of name value = formed name (as_bool value)

-- the kind that a text names
abbrev pub kind_named : List ℕ → Option Kind
kind_named text = find (λ kind. bytes_eq text (kind_name kind)) (Click ∷ Favorite ∷ Retweet ∷ Reply ∷ Tweet ∷ [])

abbrev pub in_list : Name → Option Kind → Result Kind Reason
in_list name None = Err (Range name)
in_list name (Some kind) = Ok kind

-- a kind, by its name
unfoldable pub kind_of : Name → Data → Result Kind Reason
kind_of name value = do
  text ← formed name (as_str value)
  in_list name (kind_named text)

-- an array with at least one element and at most so many
abbrev pub array_of : ℕ → Name → Data → Result Items Reason
array_of most name value = do
  list ← formed name (as_array value)
  ranged name (nat_le 1 (items_len list) && nat_le (items_len list) most) list

-- the elements in order, each of which adds to what the earlier ones gave
abbrev pub each : {A : Type 0} → (A → Data → Result A Reason) → A → Items → Result A Reason
each add so_far no_items = Ok so_far
each add so_far (item value values) = do
  more ← add so_far value
  each add more values

-- one identifier more, which is not among the earlier ones
unfoldable pub add_id : Name → List ℕ → Data → Result (List ℕ) Reason
add_id name earlier value = do
  id ← id_of name value
  ranged name (not (list_any (λ other. other == id) earlier)) (earlier ++ id ∷ [])

-- identifiers, no two of which are equal
unfoldable pub ids_of : Name → Data → Result (List ℕ) Reason
ids_of name value = do
  list ← array_of 1000 name value
  each (add_id name) [] list

-- one kind more
unfoldable pub add_kind : Name → Filter → Data → Result Filter Reason
add_kind name mask value = do
  kind ← kind_of name value
  Ok (with_kind mask kind)

-- the kinds of an array with at least one element; what stands twice counts once
abbrev pub kinds_in : Name → Items → Result Filter Reason
kinds_in name no_items = Err (Range name)
kinds_in name (item value values) = do
  kind ← kind_of name value
  each (add_kind name) (one_kind kind) values

unfoldable pub kinds_of : Name → Data → Result Filter Reason
kinds_of name value = do
  list ← formed name (as_array value)
  kinds_in name list

-- what a value of a form says
pub data Shape : Type 0 where
  a_number : Shape
  a_truth : Shape
  a_kind : Shape
  some_ids : Shape
  some_kinds : Shape
  some_items : Shape
  some_seeds : Shape
  a_least : Shape

abbrev pub Content : Shape → Type 0
Content a_number = ℕ
Content a_truth = Bool
Content a_kind = Kind
Content some_ids = List ℕ
Content some_kinds = Filter
Content some_items = List Interaction
Content some_seeds = WeightedSeeds
Content a_least = Least

-- a form: which values have it, and what they say, under the name of a field
pub record Form : Type 0 where
  pub shape : Shape
  pub reading : Name → Data → Result (Content shape) Reason

abbrev pub number : ℕ → ℕ → Form
number least most = record { shape = a_number; reading = number_of least most }

-- whole seconds
abbrev pub moment : Form
moment = number 0 9223372036854775807

abbrev pub id : Form
id = record { shape = a_number; reading = id_of }

abbrev pub truth : Form
truth = record { shape = a_truth; reading = truth_of }

abbrev pub kind : Form
kind = record { shape = a_kind; reading = kind_of }

abbrev pub ids : Form
ids = record { shape = some_ids; reading = ids_of }

abbrev pub kinds : Form
kinds = record { shape = some_kinds; reading = kinds_of }
