-- The slots by which the places of identifiers are found. Private to this crate: no public clause cites them.
use Rattle.std.specs.Prelude.{◌≡◌, ◌≢◌, ◌==◌, ℕ, ◌*◌, ◌/◌, ◌%◌, ◌^◌, ◌<◌, ◌≤◌, ◌⊎◌, List, length, Some, None, slice_index, slice_index_or, slice_set, count_by}
use Rattle.gj_ids.specs.declared.table.Slot.{Slot}
use Rattle.gj_ids.specs.declared.table.Stop.{Stop}
use Rattle.gj_ids.specs.declared.table.Stop.TheVariants.{Held, Free}
use Rattle.gj_base.specs.Firsts.{HasNoRepeat, place_of}

-- the slot where the search for an identifier begins, of 2 ^ (64 - shift)
unfoldable pub first_slot_of : ℕ → ℕ → ℕ
first_slot_of shift id = id * 11400714819323198485 % 2 ^ 64 / 2 ^ shift

-- a slot that was never used, which also stands for one past the last
abbrev pub blank : Slot
blank = record { stamp = 0; place = 0 }

-- the stamp of the slot j
abbrev pub stamp_at : List Slot → ℕ → ℕ
stamp_at slots j = (slice_index_or slots j blank).stamp

-- the place that the slot j names
abbrev pub place_at : List Slot → ℕ → ℕ
place_at slots j = (slice_index_or slots j blank).place

-- each slot in use names a place of the list
abbrev pub IsPlaced : List Slot → ℕ → List ℕ → Type 0
IsPlaced slots stamp ids = (j : ℕ) → j < length slots → stamp_at slots j ≡ stamp → place_at slots j < length ids

-- the slot is in use for another identifier
abbrev pub IsOther : List Slot → ℕ → List ℕ → ℕ → ℕ → Type 0
IsOther slots stamp ids id j = (stamp_at slots j ≡ stamp) × (slice_index ids (place_at slots j) ≢ id)

-- the slot is free, or holds the identifier
abbrev pub IsStop : List Slot → ℕ → List ℕ → ℕ → ℕ → Type 0
IsStop slots stamp ids id j = (stamp_at slots j ≢ stamp) ⊎ (slice_index ids (place_at slots j) ≡ id)

-- each slot from the first one on, in a circle, up to the last and without it, meets P
pub record IsWay (P : ℕ → Type 0) (size first last : ℕ) : Type 0 where
  pub straight : (j : ℕ) → first ≤ j → j < last → P j
  pub round : last < first → (j : ℕ) → first ≤ j → j < size → P j
  pub start : last < first → (j : ℕ) → j < last → P j

-- the slot holds the place, and none on the way to it is free
pub record IsSeat (slots : List Slot) (stamp first place slot : ℕ) : Type 0 where
  pub inside : slot < length slots
  pub used : stamp_at slots slot ≡ stamp
  pub holds : place_at slots slot ≡ place
  pub way : IsWay (λ j. stamp_at slots j ≡ stamp) (length slots) first slot

-- 2 ^ (64 - shift) slots, and no stamp is above the table's
pub record IsReady (slots : List Slot) (stamp shift : ℕ) : Type 0 where
  pub size : length slots * 2 ^ shift ≡ 2 ^ 64
  pub shifted : shift < 64
  pub begun : 0 < stamp
  pub older : (j : ℕ) → stamp_at slots j ≤ stamp

-- the slots in use lead to each identifier of the list, and to nothing else
pub record IsTable (slots : List Slot) (stamp shift : ℕ) (ids : List ℕ) : Type 0 where
  pub ready : IsReady slots stamp shift
  pub counted : count_by (λ slot. slot.stamp == stamp) slots ≡ length ids
  pub placed : IsPlaced slots stamp ids
  pub seated : (p : ℕ) → p < length ids → (j : ℕ) × IsSeat slots stamp (first_slot_of shift (slice_index ids p)) p j
  pub distinct : HasNoRepeat ids

-- the slots with one more in use
abbrev pub seated_in : List Slot → ℕ → ℕ → ℕ → List Slot
seated_in slots stamp at place = slice_set slots at (record { stamp = stamp; place = place })

-- a free slot where the absent identifier may be seated
pub record IsFree (slots : List Slot) (stamp first slot : ℕ) : Type 0 where
  pub inside : slot < length slots
  pub free : stamp_at slots slot ≢ stamp
  pub way : IsWay (λ j. stamp_at slots j ≡ stamp) (length slots) first slot

-- where the search ends: at the identifier's place, or at a free slot where it is absent
abbrev pub EndsAt : List Slot → ℕ → ℕ → List ℕ → ℕ → Stop → Type 0
EndsAt slots stamp shift ids id (Held place) = place_of ids id ≡ Some place
EndsAt slots stamp shift ids id (Free slot) = (place_of ids id ≡ None) × IsFree slots stamp (first_slot_of shift id) slot
