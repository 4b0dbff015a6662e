-- What a keeper in memory keeps, and its calls.
use Rattle.std.specs.Prelude.{◌≡◌, ◌≤◌, ◌↔◌, ℕ, Bool, IsTrue, true, false, Result, IsErrOf}
use Rattle.gj_base.specs.declared.keeper.KeepError.{KeepError}
use Rattle.gj_base.specs.declared.keeper.KeepError.TheVariants.{Failed}
use Rattle.gj_base.specs.CallNumbers.{CallLog, is_steady, fails_next, counted}
use Rattle.gj_base.specs.Causes.{faults_after}
use Rattle.gj_base.specs.Kept.{Kept}
use Rattle.gj_keep.specs.declared.memory_keeper.MemoryKeeper.{MemoryKeeper}

-- it tells all that it keeps
abbrev pub kept_by : MemoryKeeper → Kept
kept_by k = record { bare = false; tells = true; conf = k.conf; rows = k.rows.items }

-- how often it failed
abbrev pub faults_by : MemoryKeeper → ℕ
faults_by k = k.faults

-- its calls that can fail, by number
abbrev pub calls_by : MemoryKeeper → CallLog
calls_by k = k.calls

-- whether no call that is still to come is one that fails
abbrev pub steady_by : MemoryKeeper → Bool
steady_by k = is_steady k.calls

abbrev pub IsSteady : MemoryKeeper → Type 0
IsSteady k = IsTrue (steady_by k)

-- a call that can fail was counted: it failed exactly where its number is in the list
pub record IsCall {T : Type 0} (old new : MemoryKeeper) (result : Result T KeepError) : Type 0 where
  pub failed : IsErrOf result Failed ↔ IsTrue (fails_next (calls_by old))
  pub calls : calls_by new ≡ counted (calls_by old)
  pub count : faults_by new ≡ faults_after (faults_by old) result
  pub later : faults_by old ≤ faults_by new
  pub steady : IsSteady old → (IsErrOf result Failed → ⊥) × IsSteady new
