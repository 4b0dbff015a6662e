-- The names of an object, and the elements of an array.
use Rattle.std.proofs.Common.{◌≡◌, suc, List, [], ◌∷◌, length, String, Global, string_bytes, refl, ap}
use Rattle.std.specs.Prelude.{◌&&◌}
use Rattle.std.specs.List.{list_all}
use Rattle.std.specs.Map.{keys_of}
use Rattle.serde_json.specs.Events.{items_len}
use Rattle.serde_json.specs.View.{items_view, members_view}
use Rattle.serde_json.specs.declared.value.Value.{Value}
use Rattle.gj_follow.specs.Reading.{all_known, knows}
use Rattle.gj_follow.specs.declared.table.Table.{Table}

pub names_by_keys : (table : Table) (entries : List (String Global × Value)) → list_all (λ text. knows table (string_bytes text)) (keys_of entries) ≡ all_known table (members_view entries)
names_by_keys table [] = refl
names_by_keys table (entry ∷ entries) = ap (λ others. knows table (string_bytes entry.0) && others) (names_by_keys table entries)

pub items_count : (values : List Value) → items_len (items_view values) ≡ length values
items_count [] = refl
items_count (value ∷ values) = ap suc (items_count values)
