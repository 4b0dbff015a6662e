-- What the program promises of a run.
use Rattle.std.specs.Prelude.{◌≡◌, ◌⊎◌, ◌<◌, ℕ, IsTrue, List, length, ◌++◌, take, Option, Some, None}
use Rattle.gj_base.specs.Causes.{Rose}
use Rattle.gj_load.specs.Totals.{totals_of}
use Rattle.gj_base.specs.Streams.{Incoming, Outgoing, Wrote, AppendsPart}
use Rattle.gj_words.specs.Tasks.{Asked, Replay, Load, Follow}
use Rattle.gj_program.specs.Follows.{Follows}
use Rattle.gj_program.specs.Lines.{line_of, summary_of}
use Rattle.gj_program.specs.Replays.{Replays, StoresAt}
use Rattle.gj_program.specs.Statuses.{code_of}
use Rattle.gj_program.specs.declared.run_status.RunStatus.{RunStatus}
use Rattle.gj_program.specs.declared.run_status.RunStatus.TheVariants.{Done, Usage, ReadFault, WriteFault, StoreFault, Truncated, Memory, DoorFault, StoppedEarly, TooManyReads, ConfDiffers, KeptRow, NoPlace}

-- a load wrote its summary; or a proper beginning of it, where there was no room for all of it; or memory was wanting
abbrev pub Loads : List ℕ → Outgoing → Outgoing → RunStatus → Type 0
Loads summary old new Done = Wrote old new summary
Loads summary old new WriteFault = (old.sure < length summary) × (IsTrue old.tells → AppendsPart old.written new.written summary)
Loads summary old new Memory = Unit {0}
Loads summary old new _ = ⊥

-- a run did what was asked for
abbrev pub Does : Option Asked → StoresAt → StoresAt → Incoming → Incoming → Outgoing → Outgoing → RunStatus → Type 0
Does None a b in_old in_new out_old out_new status = (status ≡ Usage) ⊎ (status ≡ Memory)
Does (Some (Replay conf store)) a b in_old in_new out_old out_new status = Replays conf store a b in_old in_new out_old out_new status
Does (Some (Load conf number count)) a b in_old in_new out_old out_new status = Loads (summary_of (totals_of conf number count)) out_old out_new status
Does (Some (Follow conf start)) a b in_old in_new out_old out_new status = Follows conf start in_old in_new out_old out_new status

-- a run did what was asked for and told its status: the line that says why was written, or a beginning of it where a
-- write failed
pub record Obeys (asked : Option Asked) (a b : StoresAt) (in_old in_new : Incoming) (out_old out_new err_old err_new : Outgoing) (code : ℕ) : Type 0 where
  pub status : RunStatus
  pub code_is : code ≡ code_of status
  pub does : Does asked a b in_old in_new out_old out_new status
  pub part : IsTrue err_old.tells → (k : ℕ) × (err_new.written ≡ err_old.written ++ take k (line_of status))
  pub whole : IsTrue err_old.tells → (Rose err_old.faults err_new.faults → ⊥) → err_new.written ≡ err_old.written ++ line_of status
