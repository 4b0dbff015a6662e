-- What an `IdMap` shows of its fields. Private to this crate: no public clause cites it.
use Rattle.std.specs.Prelude.{◌≡◌, ◌*◌, ◌<◌, ◌≤◌, length, take}
use Rattle.gj_ids.specs.declared.id_map.IdMap.TheInside.{Inside}
use Rattle.gj_ids.specs.Numbering.{Numbering}
use Rattle.gj_ids.specs.Slots.{IsTable}

-- the identifiers so far, and the room
abbrev pub numbering_of : Inside → Numbering
numbering_of map = record { ids = take map.len map.ids.items; room = map.room }

-- the table is that of the identifiers so far, which the room holds, and at most half of its slots are in use
pub record IsMap (map : Inside) : Type 0 where
  pub any : 1 ≤ map.room
  pub fits : map.room ≤ 65536
  pub within : map.len ≤ map.room
  pub held : length map.ids.items ≡ map.room
  pub enough : 2 * map.room ≤ length map.table.slots.items
  pub least : length map.table.slots.items < 4 * map.room
  pub table : IsTable map.table.slots.items map.table.stamp map.table.shift (take map.len map.ids.items)
