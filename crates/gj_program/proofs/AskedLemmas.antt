-- What was asked for, where memory is wanting before anything is done.
use Rattle.std.proofs.Common.{◌≡◌, inl, inr, ℕ, List, refl}
use Rattle.std.specs.Prelude.{Option, Some, None}
use Rattle.gj_base.specs.Configuration.{Configuration}
use Rattle.gj_base.specs.Streams.{Incoming, Outgoing}
use Rattle.gj_words.specs.Tasks.{Asked, Replay, Load, Follow}
use Rattle.gj_program.specs.Replays.{Replays, StoresAt}
use Rattle.gj_program.specs.Runs.{Does}
use Rattle.gj_program.specs.declared.run_status.RunStatus.TheVariants.{Memory}
use Rattle.gj_program.proofs.FollowLemmas.{follows_not}

replays_lack : (conf : Configuration) (store : Option (List ℕ)) (a : StoresAt) (i : Incoming) (o : Outgoing) → Replays conf store a a i i o o Memory
replays_lack conf None a i o = record {
  session = λ is. cc;
  judged = (tt, λ e. cc);
  differs = λ kept now e. cc;
  bad = λ row e. cc;
  asked = λ e. cc;
  kept = λ no yes. inl refl;
}
replays_lack conf (Some path) a i o = record {
  session = λ is. cc;
  judged = λ yes. tt;
  differs = λ kept now e. cc;
  bad = λ row e. cc;
  asked = λ e. cc;
  kept = λ no yes. inl refl;
}

pub does_lack : (asked : Option Asked) (a : StoresAt) (i : Incoming) (o : Outgoing) → Does asked a a i i o o Memory
does_lack None a i o = inr refl
does_lack (Some (Replay conf store)) a i o = replays_lack conf store a i o
does_lack (Some (Load conf number count)) a i o = tt
does_lack (Some (Follow conf start)) a i o = follows_not conf start i o
