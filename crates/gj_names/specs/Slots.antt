-- The slots by which the places of identifiers are found. Private to this crate: no public clause cites them.
use Rattle.std.specs.Prelude.{◌≡◌, ◌≢◌, ◌==◌, ℕ, ◌+◌, ◌*◌, ◌/◌, ◌%◌, ◌^◌, ◌<◌, ◌≤◌, ◌⊎◌, List, length, Some, None, slice_index, slice_index_or, count_by}
use Rattle.gj_names.specs.declared.table.TheConstants.{FREE, LEAST_SIZE}
use Rattle.gj_names.specs.declared.table.Stop.{Stop}
use Rattle.gj_names.specs.declared.table.Stop.TheVariants.{Held, Free}
use Rattle.gj_base.specs.Firsts.{HasNoRepeat, place_of}

-- the slot where the search for an identifier begins, of 2 ^ (64 - shift)
unfoldable pub first_slot_of : ℕ → ℕ → ℕ
first_slot_of shift id = id * 11400714819323198485 % 2 ^ 64 / 2 ^ shift

-- the place that the slot j names, or that it is free, as is one past the last
abbrev pub place_at : List ℕ → ℕ → ℕ
place_at slots j = slice_index_or slots j FREE

-- the slot j is in use
abbrev pub IsUsed : List ℕ → ℕ → Type 0
IsUsed slots j = place_at slots j ≢ FREE

-- each slot in use names a place of the list
abbrev pub IsPlaced : List ℕ → List ℕ → Type 0
IsPlaced slots ids = (j : ℕ) → j < length slots → IsUsed slots j → place_at slots j < length ids

-- the slot is in use for another identifier
abbrev pub IsOther : List ℕ → List ℕ → ℕ → ℕ → Type 0
IsOther slots ids id j = IsUsed slots j × (slice_index ids (place_at slots j) ≢ id)

-- the slot is free, or holds the identifier
abbrev pub IsStop : List ℕ → List ℕ → ℕ → ℕ → Type 0
IsStop slots ids id j = (place_at slots j ≡ FREE) ⊎ (slice_index ids (place_at slots j) ≡ id)

-- each slot from the first one on, in a circle, up to the last and without it, meets P
pub record IsWay (P : ℕ → Type 0) (size first last : ℕ) : Type 0 where
  pub straight : (j : ℕ) → first ≤ j → j < last → P j
  pub round : last < first → (j : ℕ) → first ≤ j → j < size → P j
  pub start : last < first → (j : ℕ) → j < last → P j

-- the slot holds the place, and none on the way to it is free
pub record IsSeat (slots : List ℕ) (first place slot : ℕ) : Type 0 where
  pub inside : slot < length slots
  pub used : IsUsed slots slot
  pub holds : place_at slots slot ≡ place
  pub way : IsWay (IsUsed slots) (length slots) first slot

-- a number of slots by which the first slot is found: 2 ^ (64 - shift), and at least the least
pub record IsSized (size shift : ℕ) : Type 0 where
  pub whole : size * 2 ^ shift ≡ 2 ^ 64
  pub shifted : shift < 64
  pub least : LEAST_SIZE ≤ size

-- the slots in use lead to each identifier of the list, and to nothing else
pub record IsTable (slots : List ℕ) (shift : ℕ) (ids : List ℕ) : Type 0 where
  pub sized : IsSized (length slots) shift
  pub counted : count_by (λ place. place == FREE) slots + length ids ≡ length slots
  pub placed : IsPlaced slots ids
  pub seated : (p : ℕ) → p < length ids → (j : ℕ) × IsSeat slots (first_slot_of shift (slice_index ids p)) p j
  pub distinct : HasNoRepeat ids

-- a free slot where the absent identifier may be seated
pub record IsFree (slots : List ℕ) (first slot : ℕ) : Type 0 where
  pub inside : slot < length slots
  pub free : place_at slots slot ≡ FREE
  pub way : IsWay (IsUsed slots) (length slots) first slot

-- memory for a table of which the room is at most half
pub record IsReserved (capacity room : ℕ) : Type 0 where
  pub most : ℕ
  pub shift : ℕ
  pub whole : most * 2 ^ shift ≡ 2 ^ 64
  pub enough : 2 * room ≤ most
  pub held : most ≤ capacity

-- where the search ends: at the identifier's place, or at a free slot where it is absent
abbrev pub EndsAt : List ℕ → ℕ → List ℕ → ℕ → Stop → Type 0
EndsAt slots shift ids id (Held place) = place_of ids id ≡ Some place
EndsAt slots shift ids id (Free slot) = (place_of ids id ≡ None) × IsFree slots (first_slot_of shift id) slot
