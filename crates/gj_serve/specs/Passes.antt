-- The numbers of a pass.
use Rattle.std.specs.Prelude.{◌≡◌, ℕ, ◌+◌, ◌<◌}
use Rattle.gj_base.specs.History.{Begins}
use Rattle.gj_publish.specs.Seats.{SeatView}

-- how many links a worker took and gave back, how many ends it was told, and how much entered through its sessions
pub record Tallies : Type 0 where
  pub taken : ℕ
  pub back : ℕ
  pub overs : ℕ
  pub entered : ℕ

abbrev pub no_tallies : Tallies
no_tallies = record { taken = 0; back = 0; overs = 0; entered = 0 }

-- a worker served what it took: each link went back, it was told an end, and what entered by its seat is what its sessions
-- answered as posted or accepted
pub record DeskServed (a b : SeatView) (now : Tallies) : Type 0 where
  pub number : b.number ≡ a.number
  pub later : Begins a.front b.front
  pub all_back : now.taken ≡ now.back
  pub told : 0 < now.overs
  pub entered : b.posted ≡ a.posted + now.entered
