-- How many elements an array has.
use Rattle.std.proofs.Common.{◌≡◌, suc, List, [], ◌∷◌, length, refl, ap}
use Rattle.serde_json.specs.Events.{items_len}
use Rattle.serde_json.specs.View.{items_view}
use Rattle.serde_json.specs.declared.value.Value.{Value}

pub items_count : (values : List Value) → items_len (items_view values) ≡ length values
items_count [] = refl
items_count (value ∷ values) = ap suc (items_count values)
