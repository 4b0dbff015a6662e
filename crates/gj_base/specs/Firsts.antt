-- Identifiers in the order of their first appearance. The number of one is its place there.
use Rattle.std.specs.Prelude.{ℕ, ◌≢◌, ◌==◌, List, [], ◌∷◌, ◌++◌, fold, position, Option, is_some, AllPairs, if◌then◌else◌}
use Rattle.std.specs.List.{position_or_len}

-- the place of the identifier in the list, and None exactly where it is absent
abbrev pub place_of : List ℕ → ℕ → Option ℕ
place_of ids id = position (λ other. other == id) ids

-- the list after the identifier appears: a new one goes last, and one that is there changes nothing
abbrev pub with_id : List ℕ → ℕ → List ℕ
with_id ids id = (if is_some (place_of ids id) then ids else ids ++ id ∷ [])

-- the identifiers of a list, each once, in the order of their first appearance
unfoldable pub firsts : List ℕ → List ℕ
firsts ids = fold with_id [] ids

-- no identifier stands twice in the list
abbrev pub HasNoRepeat : List ℕ → Type 0
HasNoRepeat ids = AllPairs (λ one other. one ≢ other) ids

-- the number of an identifier of the list
abbrev pub number_in : List ℕ → ℕ → ℕ
number_in ids id = position_or_len (λ other. other == id) ids
