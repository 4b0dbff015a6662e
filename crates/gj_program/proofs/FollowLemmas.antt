-- How a follower ended, by its status.
use Rattle.std.proofs.Common.{◌≡◌, ℕ, ◌≤◌, List, [], refl, arith}
use Rattle.gj_base.specs.Configuration.{Configuration}
use Rattle.gj_base.specs.History.{empty_shown}
use Rattle.gj_base.specs.Streams.{Incoming, Outgoing}
use Rattle.gj_base.proofs.StreamLemmas.{took_none}
use Rattle.gj_pages.specs.declared.end.FollowEnd.{FollowEnd}
use Rattle.gj_pages.specs.declared.end.FollowEnd.TheVariants as ends
use Rattle.gj_pages.proofs.GoingLemmas.{goes_none, memory_ended}
use Rattle.gj_program.specs.Follows.{Follows, status_of_follow}
use Rattle.gj_program.specs.declared.run_status.RunStatus.TheVariants.{ReadFault, WriteFault, Memory, TooManyReads}

-- a follower that finds no memory before it reads
pub follows_not : (conf : Configuration) (start : ℕ) (i : Incoming) (o : Outgoing) → Follows conf start i i o o Memory
follows_not conf start i o =
    let a = empty_shown conf start in
    record {
      end = ends.Memory;
      status_is = refl;
      left = a;
      followed = record {
        bytes = [];
        reads = 0;
        took = took_none i;
        few = omega arith;
        turned = tt;
        all = λ told. tt;
        failed = refl;
        ended = memory_ended a a o o [] [] [] (goes_none a o [] refl);
      };
      by_input = λ told is. absurd is;
      wrote = λ told tells e. cc;
      stands = λ h told e. cc;
    }

pub end_of_read : (end : FollowEnd) → status_of_follow end ≡ ReadFault → end ≡ ends.ReadFault
end_of_read ends.Done e = cc
end_of_read ends.Truncated e = cc
end_of_read ends.LongLine e = cc
end_of_read ends.TooManyReads e = cc
end_of_read ends.ReadFault e = refl
end_of_read ends.WriteFault e = cc
end_of_read ends.Memory e = cc

pub end_of_write : (end : FollowEnd) → status_of_follow end ≡ WriteFault → end ≡ ends.WriteFault
end_of_write ends.Done e = cc
end_of_write ends.Truncated e = cc
end_of_write ends.LongLine e = cc
end_of_write ends.TooManyReads e = cc
end_of_write ends.ReadFault e = cc
end_of_write ends.WriteFault e = refl
end_of_write ends.Memory e = cc

pub end_of_turns : (end : FollowEnd) → status_of_follow end ≡ TooManyReads → end ≡ ends.TooManyReads
end_of_turns ends.Done e = cc
end_of_turns ends.Truncated e = cc
end_of_turns ends.LongLine e = cc
end_of_turns ends.TooManyReads e = refl
end_of_turns ends.ReadFault e = cc
end_of_turns ends.WriteFault e = cc
end_of_turns ends.Memory e = cc
