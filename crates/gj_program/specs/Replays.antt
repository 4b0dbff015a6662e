-- What the program promises of a replay.
use Rattle.std.specs.Prelude.{◌≡◌, ◌⊎◌, ℕ, ◌^◌, ◌<◌, ◌≤◌, Bool, true, false, IsTrue, List, length, Option, Some, None}
use Rattle.gj_base.specs.declared.history.History.{History}
use Rattle.gj_base.specs.declared.keeper.KeptConf.{KeptConf}
use Rattle.gj_base.specs.Causes.{Rose, RoseBy}
use Rattle.gj_base.specs.Configuration.{Configuration}
use Rattle.gj_base.specs.History.{empty_history}
use Rattle.gj_base.specs.Kept.{Kept}
use Rattle.gj_keep.specs.Books.{Keeps, asked, suits, told_rows}
use Rattle.gj_keep.specs.Openings.{IsBadRow, due, prepared}
use Rattle.gj_keep.specs.Rows.{opened}
use Rattle.gj_keep.specs.declared.opening.OpenError.{OpenError}
use Rattle.gj_keep.specs.declared.opening.OpenError.TheVariants as open_error
use Rattle.gj_once.specs.declared.verdict.LastBatch.{LastBatch}
use Rattle.gj_once.specs.Judging.{nothing_noted}
use Rattle.gj_session.specs.Marks.{mark_at}
use Rattle.gj_session.specs.Runs.{Exchange, Run, stores_in}
use Rattle.gj_session.specs.Sessions.{Replayed, IsByInput, EndsByInput}
use Rattle.gj_base.specs.Streams.{Incoming, Outgoing}
use Rattle.gj_session.specs.declared.outcome.End.{End}
use Rattle.gj_program.specs.Statuses.{is_session, status_of_end}
use Rattle.gj_program.specs.declared.run_status.RunStatus.{RunStatus}
use Rattle.gj_program.specs.declared.run_status.RunStatus.TheVariants.{Done, Usage, ReadFault, WriteFault, StoreFault, Truncated, Memory, DoorFault, StoppedEarly, TooManyReads, ConfDiffers, KeptRow, NoPlace}

-- a run alone from the opening history, with no batch noted of any producer, to one that was left; the answers by the store's fault are at most as many as the
-- rise of its count, and none where it is sure that no call fails
pub record Ran (conf : Configuration) (opening : History) (left : History → Type 0) (faults faults_after : ℕ) (sure : Bool) (exchanges : List Exchange) : Type 0 where
  pub runs : (seat : ℕ) → (new : History) × (noted : List LastBatch) × (Run conf true seat (mark_at seat opening nothing_noted) (mark_at seat new noted) exchanges × left new)
  pub stores : RoseBy (stores_in exchanges) faults faults_after
  pub steady : IsTrue sure → stores_in exchanges ≡ 0

-- the headline: there is an end of which the status tells, and a run of the messages that were taken, from the opening
-- history, whose replies are the reference replies over the retained window of the interactions that were accepted so
-- far; and the bytes that were written are the bytes of these replies, in order
pub record Headline (conf : Configuration) (opens left : History → Type 0) (faults faults_after : ℕ) (sure : Bool) (in_old in_new : Incoming) (out_old out_new : Outgoing) (status : RunStatus) : Type 0 where
  pub opening : History
  pub opened : opens opening
  pub end : End
  pub status_is : status ≡ status_of_end end
  pub replayed : Replayed (Ran conf opening left faults faults_after sure) in_old in_new out_old out_new 1099511627776 end
  pub by_input : IsTrue in_old.tells → IsByInput end → EndsByInput in_old.stream.left end

-- the history with which a session over a keeper begins: that of the rows that it tells, and the empty one where it is bare
pub record OpensOver (kept : Kept) (opening : History) : Type 0 where
  pub told : IsTrue kept.tells → opening ≡ opened (told_rows kept)
  pub bare : IsTrue kept.bare → opening ≡ empty_history 0

-- a status for a refusal of the opening comes exactly where this one is due; but memory may be wanting, and the store may
-- fail
abbrev pub Judges : Option OpenError → RunStatus → Type 0
Judges refusal (ConfDiffers kept asked) = refusal ≡ Some (open_error.ConfDiffers kept asked)
Judges refusal (KeptRow row) = refusal ≡ Some (open_error.KeptRow row)
Judges refusal StoreFault = Unit {0}
Judges refusal Memory = Unit {0}
Judges refusal Usage = ⊥
Judges refusal DoorFault = ⊥
Judges refusal NoPlace = ⊥
Judges refusal Done = refusal ≡ None
Judges refusal ReadFault = refusal ≡ None
Judges refusal WriteFault = refusal ≡ None
Judges refusal Truncated = refusal ≡ None
Judges refusal StoppedEarly = refusal ≡ None
Judges refusal TooManyReads = refusal ≡ None

-- where the status tells two configurations, the kept one doesn't suit the run's, and the other is the run's
abbrev pub TellsConf : Configuration → RunStatus → Type 0
TellsConf conf status = (kept now : KeptConf) → status ≡ ConfDiffers kept now → (suits conf (Some kept) ≡ false) × (now ≡ asked conf)

-- where the status tells a row, this is the first bad one of some rows
abbrev pub TellsRow : Configuration → RunStatus → Type 0
TellsRow conf status = (row : ℕ) → status ≡ KeptRow row → IsBadRow conf row

-- stores at one moment: what they keep, how often a call of them failed, and whether none fails from here on
pub record StoresAt : Type 0 where
  pub stored : Kept
  pub faults : ℕ
  pub steady : Bool

abbrev pub stores_at : Kept → ℕ → Bool → StoresAt
stores_at stored faults steady = record { stored = stored; faults = faults; steady = steady }

-- the history with which a session begins: without a store the empty one, and else that of the rows that the stores tell
abbrev pub Opens : Option (List ℕ) → Kept → History → Type 0
Opens None stored opening = opening ≡ empty_history 0
Opens (Some path) stored opening = IsTrue stored.tells → opening ≡ opened (told_rows stored)

-- what becomes of the last history: without a store nothing, and else the stores keep it, where they tell their rows
abbrev pub Leaves : Option (List ℕ) → Configuration → Kept → History → Type 0
Leaves None conf stored h = Unit {0}
Leaves (Some path) conf stored h = Keeps conf stored h

-- the count of the store's faults, 0 where there is no store
abbrev pub faults_in : Option (List ℕ) → ℕ → ℕ
faults_in None faults = 0
faults_in (Some path) faults = faults

-- whether no call of the store fails from here on; where there is no store, none is made
abbrev pub steady_in : Option (List ℕ) → Bool → Bool
steady_in None steady = true
steady_in (Some path) steady = steady

-- the status of an opening is right: without a store none is refused
abbrev pub IsJudged : Option (List ℕ) → Configuration → Kept → RunStatus → Type 0
IsJudged None conf stored status = Judges None status × (status ≡ StoreFault → ⊥)
IsJudged (Some path) conf stored status = IsTrue stored.tells → Judges (due conf stored) status

-- without a session the stores keep what they kept before, but for what the opening itself wrote
abbrev pub IsKept : Configuration → Kept → Kept → Type 0
IsKept conf old new = IsTrue old.tells → (new ≡ old) ⊎ (new ≡ prepared conf old)

-- a replay over a window that a store keeps or none
pub record Replays (conf : Configuration) (store : Option (List ℕ)) (a b : StoresAt) (in_old in_new : Incoming) (out_old out_new : Outgoing) (status : RunStatus) : Type 0 where
  pub session : IsTrue (is_session status)
      → Headline conf (Opens store a.stored) (Leaves store conf b.stored) (faults_in store a.faults) (faults_in store b.faults) (steady_in store a.steady) in_old in_new out_old out_new status
  pub judged : IsJudged store conf a.stored status
  pub differs : TellsConf conf status
  pub bad : TellsRow conf status
  pub asked : status ≡ Usage → ⊥
  pub kept : is_session status ≡ false → IsKept conf a.stored b.stored

-- why the calls of the streams failed, or when none did, by the status
pub record Causes (in_old in_new : Incoming) (out_old out_new : Outgoing) (sure : Type 0) (status : RunStatus) : Type 0 where
  pub read : status ≡ ReadFault → Rose in_old.faults in_new.faults
  pub write : status ≡ WriteFault → Rose out_old.faults out_new.faults
  pub steady : sure → status ≡ ReadFault → ⊥
  pub short : IsTrue in_old.tells → length in_old.stream.left < 2 ^ 40 → status ≡ TooManyReads → ⊥
