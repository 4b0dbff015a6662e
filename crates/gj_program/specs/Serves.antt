-- What the program promises of a service.
use Rattle.std.specs.Prelude.{◌≡◌, ◌⊎◌, ℕ, IsTrue, List, ◌++◌, take, Option, Some, None}
use Rattle.gj_base.specs.Causes.{Rose}
use Rattle.gj_base.specs.Configuration.{Configuration}
use Rattle.gj_base.specs.Kept.{Kept}
use Rattle.gj_base.specs.declared.history.History.{History}
use Rattle.gj_keep.specs.Openings.{due}
use Rattle.gj_keep.specs.declared.opening.OpenError.{OpenError}
use Rattle.gj_keep.specs.declared.opening.OpenError.TheVariants as why
use Rattle.gj_service.specs.Services.{DoorAt, IsOpened, IsUnserved, Judges, Service, TellsConf, TellsRow}
use Rattle.gj_service.specs.declared.end.ServiceEnd.{ServiceEnd}
use Rattle.gj_service.specs.declared.end.ServiceEnd.TheVariants as ends
use Rattle.gj_service.specs.declared.plan.Plan.{Plan}
use Rattle.gj_base.specs.Streams.{Outgoing}
use Rattle.gj_words.specs.Tasks.{Serving}
use Rattle.gj_program.specs.Lines.{line_of}
use Rattle.gj_program.specs.Replays.{IsKept, Leaves, Opens, StoresAt}
use Rattle.gj_program.specs.Statuses.{code_of}
use Rattle.gj_program.specs.declared.run_status.RunStatus.{RunStatus}
use Rattle.gj_program.specs.declared.run_status.RunStatus.TheVariants.{Done, Usage, WriteFault, StoreFault, Memory, DoorFault, ConfDiffers, KeptRow, NoPlace}

-- the status of a service
abbrev pub status_of_service : ServiceEnd → RunStatus
status_of_service ends.Done = Done
status_of_service ends.WriteFault = WriteFault
status_of_service ends.DoorFault = DoorFault
status_of_service ends.Memory = Memory
status_of_service (ends.Refused why.Memory) = Memory
status_of_service (ends.Refused why.Store) = StoreFault
status_of_service (ends.Refused (why.ConfDiffers kept asked)) = ConfDiffers kept asked
status_of_service (ends.Refused (why.KeptRow row)) = KeptRow row
status_of_service (ends.Refused why.Place) = NoPlace

-- the plan of what is asked for
abbrev pub plan_of : Serving → Plan
plan_of s = record { workers = s.workers; sessions = s.sessions; port = s.port }

-- a refusal of the opening is right: without a store memory and a reader's place alone may be wanting
abbrev pub IsServable : Option (List ℕ) → Configuration → Kept → ServiceEnd → Type 0
IsServable None conf stored end = Judges None end × (end ≡ ends.Refused why.Store → ⊥)
IsServable (Some path) conf stored end = IsTrue stored.tells → Judges (due conf stored) end

-- a service over a window that a store keeps or none
pub record Serves (conf : Configuration) (store : Option (List ℕ)) (plan : Plan) (a b : StoresAt) (d e : DoorAt) (heard : Configuration → History → Type 0) (old new : Outgoing) (end : ServiceEnd) : Type 0 where
  pub service : IsOpened end → Service plan (Opens store a.stored) (Leaves store conf b.stored) (heard conf) d e old new end
  pub judged : IsServable store conf a.stored end
  pub differs : TellsConf conf end
  pub bad : TellsRow conf end
  pub kept : IsUnserved end → IsKept conf a.stored b.stored

-- a service did what was asked for, or there were no such words
abbrev pub DoesServe : Option Serving → StoresAt → StoresAt → DoorAt → DoorAt → (Configuration → History → Type 0) → Outgoing → Outgoing → RunStatus → Type 0
DoesServe None a b d e heard old new status = (status ≡ Usage) ⊎ (status ≡ Memory)
DoesServe (Some s) a b d e heard old new status =
    (end : ServiceEnd) × (status ≡ status_of_service end) × Serves s.conf s.store (plan_of s) a b d e heard old new end

-- an opening of a store that tells its rows accepts it; without a store there is none to accept
abbrev pub Accepts : Option (List ℕ) → Configuration → Kept → Type 0
Accepts None conf stored = Unit {0}
Accepts (Some path) conf stored = IsTrue stored.tells × (due conf stored ≡ None)

-- statuses at which the door was not asked to open
abbrev pub IsTurnedAway : RunStatus → Type 0
IsTurnedAway Usage = Unit {0}
IsTurnedAway StoreFault = Unit {0}
IsTurnedAway (ConfDiffers kept asked) = Unit {0}
IsTurnedAway (KeptRow row) = Unit {0}
IsTurnedAway NoPlace = Unit {0}
IsTurnedAway _ = ⊥

-- statuses at which no link was handed out and nothing written
abbrev pub IsUntaken : RunStatus → Type 0
IsUntaken Memory = Unit {0}
IsUntaken status = IsTurnedAway status

-- a service did what was asked for and told its status: the line that says why was written, or a beginning of it where a
-- write failed
pub record ObeysServe (asked : Option Serving) (a b : StoresAt) (d e : DoorAt) (heard : Configuration → History → Type 0) (out_old out_new err_old err_new : Outgoing) (code : ℕ) : Type 0 where
  pub status : RunStatus
  pub code_is : code ≡ code_of status
  pub does : DoesServe asked a b d e heard out_old out_new status
  pub part : IsTrue err_old.tells → (k : ℕ) × (err_new.written ≡ err_old.written ++ take k (line_of status))
  pub whole : IsTrue err_old.tells → (Rose err_old.faults err_new.faults → ⊥) → err_new.written ≡ err_old.written ++ line_of status
