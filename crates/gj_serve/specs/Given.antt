-- What is known of a link that came back.
use Rattle.std.specs.Prelude.{◌≡◌, ℕ, ◌+◌, Bool, IsTrue, List, All, length}
use Rattle.gj_base.specs.Configuration.{Configuration}
use Rattle.gj_base.specs.History.{Begins}
use Rattle.gj_base.specs.Stream.{Reading}
use Rattle.gj_base.specs.Streams.{incoming, outgoing}
use Rattle.gj_base.specs.declared.history.History.{History}
use Rattle.gj_publish.specs.Seats.{SeatView}
use Rattle.gj_serve.specs.Doors.{IsFresh}
use Rattle.gj_session.specs.SeatRuns.{SeatRan}
use Rattle.gj_session.specs.Sessions.{Replayed}
use Rattle.gj_session.specs.declared.done.Done.{Done}

-- a link as it was handed out
pub record Handed : Type 0 where
  pub stream : Reading
  pub read_faults : ℕ
  pub reads : ℕ
  pub written : List ℕ
  pub write_faults : ℕ
  pub sure : ℕ

-- a session over a link that was fresh: what was taken, answered and written by its end is a run beside other seats, and all
-- that its seat saw begins the history
pub record HasServed {L : Type 0} (tells : L → Bool) (stream : L → Reading) (read_faults reads : L → ℕ) (written : L → List ℕ) (write_faults : L → ℕ) (conf : Configuration) (history : History) (done : Done L) : Type 0 where
  pub handed : Handed
  pub fresh : IsFresh (IsTrue (tells done.link)) handed.stream handed.written
  pub before : SeatView
  pub after : SeatView
  pub ran : Replayed (SeatRan conf before after)
      (incoming (tells done.link) handed.stream handed.read_faults handed.reads)
      (incoming (tells done.link) (stream done.link) (read_faults done.link) (reads done.link))
      (outgoing (tells done.link) handed.written handed.write_faults handed.sure)
      (outgoing (tells done.link) (written done.link) (write_faults done.link) handed.sure)
      1099511627776 done.end
  pub entered : after.posted ≡ before.posted + done.entered
  pub begins : Begins after.front history

-- each link that came back had such a session, where they are told; that there is one is said, and not which one
abbrev pub AreServed : {L : Type 0} → (L → Bool) → (L → Reading) → (L → ℕ) → (L → ℕ) → (L → List ℕ) → (L → ℕ) → Configuration → History → Type 0 → ℕ → List (Done L) → Type 0
AreServed {L = L} tells stream read_faults reads written write_faults conf history told back given =
    told → (length given ≡ back) × All (λ (done : Done L). ∥ HasServed tells stream read_faults reads written write_faults conf history done ∥₁) given
