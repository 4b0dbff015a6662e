-- What `Names` show of their fields. Private to this crate: no public clause cites it.
use Rattle.std.specs.Prelude.{◌*◌, ◌≤◌, length, vec_capacity}
use Rattle.gj_names.specs.declared.table.TheConstants.{LEAST_SIZE}
use Rattle.gj_names.specs.declared.names.Names.TheInside.{Inside}
use Rattle.gj_names.specs.Named.{Named}
use Rattle.gj_names.specs.Slots.{IsTable, IsReserved}

-- the identifiers so far, and the room
abbrev pub named_of : Inside → Named
named_of names = record { ids = names.ids.items; room = names.room }

-- the table is that of the identifiers, which have memory for the room, and at most half of its slots are in use
pub record IsNaming (names : Inside) : Type 0 where
  pub any : 1 ≤ names.room
  pub fits : names.room ≤ 8388608
  pub within : length names.ids.items ≤ names.room
  pub held : names.room ≤ vec_capacity names.ids
  pub half : 2 * length names.ids.items ≤ length names.table.slots.items
  pub least : LEAST_SIZE ≤ vec_capacity names.table.slots
  pub reserved : IsReserved (vec_capacity names.table.slots) names.room
  pub table : IsTable names.table.slots.items names.table.shift names.ids.items
