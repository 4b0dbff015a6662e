-- The rows of a store: which are bad, and of which history they are. Own: rows come from outside, so any numbers are judged.
use Rattle.std.specs.Prelude.{ℕ, zero, suc, ◌+◌, ◌%◌, ◌^◌, ◌==◌, ◌&&◌, nat_le, nat_lt, Bool, List, [], ◌∷◌, length, map, Option, Some, None, is_none, if◌then◌else◌}
use Rattle.gj_base.specs.declared.item.Item.{Item}
use Rattle.gj_base.specs.declared.kind.Kind.{Kind}
use Rattle.gj_base.specs.declared.kind.Kind.TheVariants.{Click, Favorite, Retweet, Reply, Tweet}
use Rattle.gj_base.specs.declared.keeper.KeptItem.{KeptItem}
use Rattle.gj_base.specs.declared.history.History.{History}
use Rattle.gj_base.specs.Configuration.{Configuration}
use Rattle.gj_base.specs.History.{base, entries_by}

-- the numbers of the row are those of an interaction, and its place is one of a history
abbrev pub is_in_range : KeptItem → Bool
is_in_range row =
    nat_lt row.user (2 ^ 63) && (nat_lt row.post (2 ^ 63) && (nat_lt row.kind 5 && (nat_lt row.moment (2 ^ 63) && nat_lt row.place (2 ^ 48))))

-- the index of the first row, counted from i, that is out of range or doesn't stand at the next place, where the first is to stand at place
abbrev pub first_apart : ℕ → ℕ → List KeptItem → Option ℕ
first_apart place i [] = None
first_apart place i (row ∷ rows) =
    if is_in_range row && (row.place == place) then first_apart (place + 1) (i + 1) rows else Some i

-- so many rows may begin at the place: it is aligned, and not behind the base of the history that ends with them
abbrev pub may_begin : Configuration → ℕ → ℕ → Bool
may_begin conf place count =
    (place % conf.capacity == 0) && nat_le place (base conf.capacity conf.segments (place + count))

-- the index of the first bad row
abbrev pub first_bad : Configuration → List KeptItem → Option ℕ
first_bad conf [] = None
first_bad conf (row ∷ rows) =
    if may_begin conf row.place (length (row ∷ rows)) then first_apart row.place 0 (row ∷ rows) else Some 0

-- no row is bad
abbrev pub good : Configuration → List KeptItem → Bool
good conf rows = is_none (first_bad conf rows)

-- the kind with this number; of a good row it is below 5
abbrev pub kind_of : ℕ → Kind
kind_of zero = Click
kind_of (suc zero) = Favorite
kind_of (suc (suc zero)) = Retweet
kind_of (suc (suc (suc zero))) = Reply
kind_of (suc (suc (suc (suc n)))) = Tweet

-- the interaction of a row
abbrev pub item_of : KeptItem → Item
item_of row = record { user = row.user; post = row.post; kind = kind_of row.kind; at = row.moment }

-- the place of the first row, 0 where there is none
abbrev pub first_place : List KeptItem → ℕ
first_place [] = 0
first_place (row ∷ rows) = row.place

-- the history of these rows, all of them by no seat
abbrev pub opened : List KeptItem → History
opened rows = record { first = first_place rows; entries = entries_by 0 (map item_of rows) }
