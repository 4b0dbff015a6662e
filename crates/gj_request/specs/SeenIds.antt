-- A set beside a list of identifiers. Own.
use Rattle.std.specs.Prelude.{◌≡◌, ℕ, ◌==◌, List}
use Rattle.std.specs.BTreeSet.{BTreeSet, contains}
use Rattle.std.specs.List.{list_any}
use Rattle.std.specs.Ordering.{nat_cmp}

-- the set has these identifiers and no others
abbrev pub HasThese : BTreeSet ℕ → List ℕ → Type 0
HasThese seen ids = (id : ℕ) → contains nat_cmp seen id ≡ list_any (λ other. other == id) ids
