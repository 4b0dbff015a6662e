-- The program's statuses. Own: their numbers.
use Rattle.std.specs.Prelude.{ℕ, Bool, true, false}
use Rattle.gj_keep.specs.declared.opening.OpenError.{OpenError}
use Rattle.gj_keep.specs.declared.opening.OpenError.TheVariants as open_error
use Rattle.gj_session.specs.declared.outcome.End.{End}
use Rattle.gj_session.specs.declared.outcome.End.TheVariants as ends
use Rattle.gj_program.specs.declared.run_status.RunStatus.{RunStatus}
use Rattle.gj_program.specs.declared.run_status.RunStatus.TheVariants.{Done, Usage, ReadFault, WriteFault, StoreFault, Truncated, Memory, DoorFault, StoppedEarly, TooManyReads, ConfDiffers, KeptRow, NoPlace}

-- the number of a status
abbrev pub code_of : RunStatus → ℕ
code_of Done = 0
code_of Usage = 2
code_of ReadFault = 3
code_of WriteFault = 4
code_of StoreFault = 5
code_of Truncated = 6
code_of Memory = 7
code_of DoorFault = 8
code_of StoppedEarly = 9
code_of TooManyReads = 10
code_of (ConfDiffers kept asked) = 11
code_of (KeptRow row) = 12
code_of NoPlace = 13

-- the status of a session by its end
abbrev pub status_of_end : End → RunStatus
status_of_end ends.Finished = Done
status_of_end ends.Closed = StoppedEarly
status_of_end (ends.Stopped _) = StoppedEarly
status_of_end ends.Truncated = Truncated
status_of_end ends.ReadFault = ReadFault
status_of_end ends.WriteFault = WriteFault
status_of_end ends.Turns = TooManyReads

-- the status of a refused opening. An opening of a book asks for no reader's place
abbrev pub status_of_refusal : OpenError → RunStatus
status_of_refusal open_error.Memory = Memory
status_of_refusal open_error.Store = StoreFault
status_of_refusal (open_error.ConfDiffers kept asked) = ConfDiffers kept asked
status_of_refusal (open_error.KeptRow row) = KeptRow row
status_of_refusal open_error.Place = Memory

-- a replay with this status ran a session
abbrev pub is_session : RunStatus → Bool
is_session Done = true
is_session ReadFault = true
is_session WriteFault = true
is_session Truncated = true
is_session StoppedEarly = true
is_session TooManyReads = true
is_session Usage = false
is_session StoreFault = false
is_session Memory = false
is_session (ConfDiffers kept asked) = false
is_session (KeptRow row) = false
is_session DoorFault = false
is_session NoPlace = false
