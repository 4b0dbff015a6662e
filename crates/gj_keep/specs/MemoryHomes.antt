-- What the keepers in memory know of their one keeper.
use Rattle.std.specs.Prelude.{ℕ, Bool, true, ◌&&◌, Option, Some, None, IsTrue}
use Rattle.std.specs.Option.{is_some}
use Rattle.gj_keep.specs.declared.memory_keeper.MemoryKeeper.{MemoryKeeper}
use Rattle.gj_base.specs.CallNumbers.{CallLog, is_steady}
use Rattle.gj_base.specs.Kept.{Kept}
use Rattle.gj_keep.specs.declared.memory_keepers.MemoryKeepers.{MemoryKeepers}
use Rattle.gj_keep.specs.MemoryStores.{kept_by, steady_by}

-- what the keeper kept as it was last at home
abbrev pub stored_by : MemoryKeepers → Kept
stored_by s = kept_by s.last.value

abbrev pub is_home : MemoryKeepers → Bool
is_home s = is_some s.kept

-- how often a call on it failed
abbrev pub own_faults : MemoryKeepers → ℕ
own_faults s = s.own

-- how often a call on it or on its keeper failed, as the keeper was last at home
abbrev pub faults_known : MemoryKeepers → ℕ
faults_known s = s.faults

-- its calls that can fail, by number
abbrev pub calls_on : MemoryKeepers → CallLog
calls_on s = s.calls

-- whether no call on the keeper fails, where it is at home
abbrev pub home_steady : Option MemoryKeeper → Bool
home_steady None = true
home_steady (Some k) = steady_by k

-- whether no call that is still to come fails, on it and on its keeper where that is at home
abbrev pub are_steady : MemoryKeepers → Bool
are_steady s = is_steady s.calls && home_steady s.kept

abbrev pub AreSteady : MemoryKeepers → Type 0
AreSteady s = IsTrue (are_steady s)
