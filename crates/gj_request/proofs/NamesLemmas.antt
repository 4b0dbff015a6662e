-- The names of an object.
use Rattle.std.proofs.Common.{◌≡◌, ℕ, Bool, List, [], ◌∷◌, String, Global, string_bytes, refl, ap}
use Rattle.std.specs.Prelude.{◌&&◌}
use Rattle.std.specs.List.{list_all}
use Rattle.std.specs.Map.{keys_of}
use Rattle.serde_json.specs.View.{members_view}
use Rattle.serde_json.specs.declared.value.Value.{Value}
use Rattle.gj_request.specs.Tables.{all_names}

pub names_by_keys : (passes : List ℕ → Bool) (entries : List (String Global × Value)) → list_all (λ text. passes (string_bytes text)) (keys_of entries) ≡ all_names passes (members_view entries)
names_by_keys passes [] = refl
names_by_keys passes (entry ∷ entries) = ap (λ others. passes (string_bytes entry.0) && others) (names_by_keys passes entries)
