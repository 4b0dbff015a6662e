-- What the end of a session says of its faults and its reads.
use Rattle.std.proofs.Common.{◌≡◌, ◌≢◌, inl, inr, ℕ, ◌+◌, ◌<◌, ◌≤◌, IsTrue, List, ◌++◌, length, take, refl, ap, subst, arith, length-append, length-take}
use Rattle.gj_base.specs.Causes.{RoseBy, Rose}
use Rattle.gj_session.specs.Runs.{Exchange, transcript, exchange_bytes}
use Rattle.gj_session.specs.Outcomes.{outcome_bytes}
use Rattle.gj_session.specs.Sessions.{Ends, IsTurned, FailedReads, Replayed}
use Rattle.gj_base.specs.Streams.{Incoming, Outgoing, Wrote, WrotePart}
use Rattle.gj_session.specs.declared.outcome.End.{End}
use Rattle.gj_session.specs.declared.outcome.End.TheVariants.{Finished, Closed, Truncated, Stopped, ReadFault, WriteFault, Turns}

-- what the end says of what went out
pub record GoneOut (end : End) (a b : Outgoing) : Type 0 where
  pub told : b.tells ≡ a.tells
  pub later : a.faults ≤ b.faults
  pub rose : end ≡ WriteFault → Rose a.faults b.faults
  pub same : end ≢ WriteFault → b.faults ≡ a.faults
  pub room : IsTrue a.tells → end ≡ WriteFault → a.sure + length a.written ≤ length b.written

gone_whole : (end : End) (a b : Outgoing) (bytes : List ℕ) → end ≢ WriteFault → Wrote a b bytes → GoneOut end a b
gone_whole end a b bytes never x = record {
  told = x.told;
  later = omega (arith, x.same);
  rose = λ e. absurd (never e);
  same = λ _. x.same;
  room = λ t e. absurd (never e);
}

gone_part : (a b : Outgoing) (bytes whole : List ℕ) → WrotePart a b bytes whole → GoneOut WriteFault a b
gone_part a b bytes whole x = record {
  told = x.told;
  later = x.failed.later;
  rose = λ e. omega (arith, x.failed.once);
  same = λ never. absurd (never refl);
  room = λ t e. (let all = ap length (x.all t) in
      omega (arith, all, length-append (a.written ++ bytes) (take x.count whole), length-append a.written bytes, length-take x.count whole, x.part, x.spent));
}

pub gone : (end : End) (a b : Outgoing) (es : List Exchange) (rest : List ℕ) → Ends end a b es rest → GoneOut end a b
gone Finished a b es rest x = gone_whole Finished a b (transcript es) (λ e. cc) x.0.wrote
gone Truncated a b es rest x = gone_whole Truncated a b (transcript es) (λ e. cc) x.0.wrote
gone ReadFault a b es rest x = gone_whole ReadFault a b (transcript es) (λ e. cc) x.wrote
gone Turns a b es rest x = gone_whole Turns a b (transcript es) (λ e. cc) x.wrote
gone Closed a b es rest x = gone_whole Closed a b (transcript es) (λ e. cc) x.1
gone (Stopped why) a b es rest x = gone_whole (Stopped why) a b (transcript es ++ outcome_bytes x.1.1.outcome _) (λ e. cc) x.1.1.wrote
gone WriteFault a b es rest (inl x) = gone_part a b (transcript x.done) (exchange_bytes x.last) x.wrote
gone WriteFault a b es rest (inr x) = gone_part a b (transcript es) (outcome_bytes x.outcome _) x.wrote

-- what the end says of what came in
pub record ComeIn (end : End) (a b : Incoming) (turns : ℕ) : Type 0 where
  pub told : b.tells ≡ a.tells
  pub later : a.faults ≤ b.faults
  pub rose : end ≡ ReadFault → Rose a.faults b.faults
  pub same : end ≢ ReadFault → b.faults ≡ a.faults
  pub reads : b.reads ≤ a.reads + turns
  pub turned : end ≡ Turns → RoseBy turns a.reads b.reads
  pub short : IsTrue a.tells → length a.stream.left < turns → end ≢ Turns

-- the part of it that is of the faults
record Faults (end : End) (f g : ℕ) : Type 0 where
  pub later : f ≤ g
  pub rose : end ≡ ReadFault → Rose f g
  pub same : end ≢ ReadFault → g ≡ f

no_faults : (end : End) (f g : ℕ) → end ≢ ReadFault → g ≡ f → Faults end f g
no_faults end f g never e = record { later = omega (arith, e); rose = λ is. absurd (never is); same = λ _. e }

faults_by : (end : End) (f g : ℕ) → FailedReads end f g → Faults end f g
faults_by ReadFault f g x = record { later = x.later; rose = λ e. omega (arith, x.once); same = λ never. absurd (never refl) }
faults_by Finished f g x = no_faults Finished f g (λ e. cc) x
faults_by Truncated f g x = no_faults Truncated f g (λ e. cc) x
faults_by Closed f g x = no_faults Closed f g (λ e. cc) x
faults_by (Stopped why) f g x = no_faults (Stopped why) f g (λ e. cc) x
faults_by WriteFault f g x = no_faults WriteFault f g (λ e. cc) x
faults_by Turns f g x = no_faults Turns f g (λ e. cc) x

turned_by : (end : End) (reads turns : ℕ) (bytes : List ℕ) → IsTurned end reads turns bytes → end ≡ Turns → (reads ≡ turns) × (turns ≤ length bytes)
turned_by end reads turns bytes x e = (let here : IsTurned Turns reads turns bytes = subst (λ (y : End). IsTurned y reads turns bytes) e x in here)

pub come : (ran : List Exchange → Type 0) (a b : Incoming) (c d : Outgoing) (turns : ℕ) (end : End) → Replayed ran a b c d turns end → ComeIn end a b turns
come ran a b c d turns end x =
    let faults = faults_by end a.faults b.faults x.failed in
    record {
      told = x.took.told;
      later = faults.later;
      rose = faults.rose;
      same = faults.same;
      reads = omega (arith, x.took.made.high, x.few);
      turned = λ e. (let all = (turned_by end x.reads turns x.bytes x.turned e).0 in subst (λ (n : ℕ). RoseBy n a.reads b.reads) all x.took.made.low);
      short = λ t few e.
          let all = (turned_by end x.reads turns x.bytes x.turned e).1 in
          let left = ap length (x.took.all t).left in
          omega (arith, all, left, few, length-append x.bytes b.stream.left);
    }
