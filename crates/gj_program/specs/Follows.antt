-- What the program promises of following.
use Rattle.std.specs.Prelude.{◌≡◌, ℕ, ◌≤◌, IsTrue, ◌++◌}
use Rattle.std.specs.List.{All}
use Rattle.gj_base.specs.declared.history.History.{History}
use Rattle.gj_base.specs.declared.history.Shown.{Shown}
use Rattle.gj_base.specs.Configuration.{Configuration}
use Rattle.gj_base.specs.History.{StandsFor, empty_shown}
use Rattle.gj_base.specs.Streams.{Incoming, Outgoing}
use Rattle.gj_follow.specs.Follows.{IsOf, part, reach}
use Rattle.gj_pages.specs.Answers.{pages_in, text_of}
use Rattle.gj_pages.specs.Following.{Followed, IsByInput}
use Rattle.gj_pages.specs.Lines.{end_by, lines_of}
use Rattle.gj_pages.specs.declared.end.FollowEnd.{FollowEnd}
use Rattle.gj_pages.specs.declared.end.FollowEnd.TheVariants as ends
use Rattle.gj_program.specs.declared.run_status.RunStatus.{RunStatus}
use Rattle.gj_program.specs.declared.run_status.RunStatus.TheVariants.{Done, ReadFault, WriteFault, Truncated, Memory, StoppedEarly, TooManyReads}

-- the status of a follower by its end
abbrev pub status_of_follow : FollowEnd → RunStatus
status_of_follow ends.Done = Done
status_of_follow ends.Truncated = Truncated
status_of_follow ends.LongLine = StoppedEarly
status_of_follow ends.TooManyReads = TooManyReads
status_of_follow ends.ReadFault = ReadFault
status_of_follow ends.WriteFault = WriteFault
status_of_follow ends.Memory = Memory

-- a follower with an empty window at a place: there is an end of which the status tells, and the lines that were taken were
-- answered in order, as the pages in them were taken; without a fault and want of memory the end and all that was written
-- are functions of the whole input, and the follower stands for each history of which its pages are, up to what they reach
pub record Follows (conf : Configuration) (start : ℕ) (in_old in_new : Incoming) (out_old out_new : Outgoing) (status : RunStatus) : Type 0 where
  pub end : FollowEnd
  pub status_is : status ≡ status_of_follow end
  pub left : Shown
  pub followed : Followed (empty_shown conf start) left in_old in_new out_old out_new 1099511627776 end
  pub by_input : IsTrue in_old.tells → IsByInput end → end ≡ end_by in_old.stream.left
  pub wrote : IsTrue in_old.tells → IsTrue out_old.tells → end ≡ ends.Done → out_new.written ≡ out_old.written ++ text_of (empty_shown conf start) in_old.stream.left
  pub stands : (h : History) → IsTrue in_old.tells → end ≡ ends.Done → h.first ≤ start → All (IsOf h) (pages_in (lines_of in_old.stream.left))
      → StandsFor left (part h start (reach start (pages_in (lines_of in_old.stream.left))))
