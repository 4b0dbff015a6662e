-- Sessions that are done, beside a history that grows.
use Rattle.std.proofs.Common.{◌≡◌, ℕ, ◌+◌, All, Bool, IsTrue, List, [], ◌∷◌, ◌++◌, length, slice_index_or, ap, sym, subst, arith, length-append}
use Rattle.std.proofs.Math.Logic.{∥∥₁_map}
use Rattle.std.proofs.lemmas.List.Elements.{All-push}
use Rattle.gj_base.specs.Configuration.{Configuration}
use Rattle.gj_base.specs.History.{Begins}
use Rattle.gj_base.specs.Stream.{Reading}
use Rattle.gj_base.specs.declared.history.History.{History}
use Rattle.gj_base.specs.Streams.{incoming, outgoing}
use Rattle.gj_publish.specs.Seats.{SeatView}
use Rattle.gj_publish.proofs.Histories.{begins_self, begins_trans}
use Rattle.gj_serve.specs.Doors.{IsFresh}
use Rattle.gj_session.specs.SeatRuns.{SeatRan}
use Rattle.gj_session.specs.Sessions.{Replayed}
use Rattle.gj_serve.specs.Given.{AreServed, HasServed}
use Rattle.gj_session.specs.declared.done.Done.{Done}

-- what a seat has seen begins each later history too
served_later : {L : Type 0} (tells : L → Bool) (stream : L → Reading) (read_faults reads : L → ℕ) (written : L → List ℕ) (write_faults : L → ℕ) (conf : Configuration) (a b : History) (done : Done L)
    → Begins a b → HasServed tells stream read_faults reads written write_faults conf a done → HasServed tells stream read_faults reads written write_faults conf b done
served_later tells stream read_faults reads written write_faults conf a b done later x = record {
  handed = x.handed;
  fresh = x.fresh;
  before = x.before;
  after = x.after;
  ran = x.ran;
  entered = x.entered;
  begins = begins_trans x.after.front a b x.begins later;
}

-- the same for all of them
pub are_served_later : {L : Type 0} (tells : L → Bool) (stream : L → Reading) (read_faults reads : L → ℕ) (written : L → List ℕ) (write_faults : L → ℕ) (conf : Configuration) (a b : History) (told : Type 0) (back : ℕ) (given : List (Done L))
    → Begins a b → AreServed tells stream read_faults reads written write_faults conf a told back given → AreServed tells stream read_faults reads written write_faults conf b told back given
are_served_later tells stream read_faults reads written write_faults conf a b told back given later all = λ yes.
    let here = all yes in
    (here.0, λ k d lt. ∥∥₁_map (here.1 k d lt) (served_later tells stream read_faults reads written write_faults conf a b (slice_index_or given k d) later))

-- one more came back, and the history grew
pub are_served_more : {L : Type 0} {tells : L → Bool} {stream : L → Reading} {read_faults reads : L → ℕ} {written : L → List ℕ} {write_faults : L → ℕ} {conf : Configuration} (a s b : History) (told told' : Type 0) (back back' : ℕ) (given given' : List (Done L)) (done : Done L)
    → Begins a b → Begins s b
    → (told' → told) → back' ≡ back + 1 → (told → given' ≡ given ++ done ∷ [])
    → AreServed tells stream read_faults reads written write_faults conf a told back given
    → HasServed tells stream read_faults reads written write_faults conf s done
    → AreServed tells stream read_faults reads written write_faults conf b told' back' given'
are_served_more {L = L} {tells = tells} {stream = stream} {read_faults = read_faults} {reads = reads} {written = written} {write_faults = write_faults} {conf = conf} a s b told told' back back' given given' done later seen still counted longer all one = λ yes'.
    let yes = still yes' in
    let here = are_served_later tells stream read_faults reads written write_faults conf a b told back given later all yes in
    let P : Done L → Type 0 = λ x. ∥ HasServed tells stream read_faults reads written write_faults conf b x ∥₁ in (
      omega (arith, here.0, counted, ap length (longer yes), length-append given (done ∷ [])),
      subst (All P) (sym (longer yes)) (All-push P given done here.1 ∣ served_later tells stream read_faults reads written write_faults conf s b done seen one ∣₁),
    )

-- none came back yet
pub none_served : {L : Type 0} (tells : L → Bool) (stream : L → Reading) (read_faults reads : L → ℕ) (written : L → List ℕ) (write_faults : L → ℕ) (conf : Configuration) (h : History) (told : Type 0) (back : ℕ) (given : List (Done L))
    → given ≡ [] → back ≡ 0 → AreServed tells stream read_faults reads written write_faults conf h told back given
none_served tells stream read_faults reads written write_faults conf h told back given none zero = λ yes.
    (omega (arith, ap length none, zero), λ k d lt. absurd (omega (arith, ap length none, lt)))

-- a session over a fresh link
pub has_served : {L : Type 0} (tells : L → Bool) (stream : L → Reading) (read_faults reads : L → ℕ) (written : L → List ℕ) (write_faults sure : L → ℕ) (conf : Configuration) (before after : SeatView) (link : L) (done : Done L)
    → IsFresh (IsTrue (tells link)) (stream link) (written link) → tells done.link ≡ tells link
    → Replayed (SeatRan conf before after)
    (incoming (tells link) (stream link) (read_faults link) (reads link))
    (incoming (tells done.link) (stream done.link) (read_faults done.link) (reads done.link))
    (outgoing (tells link) (written link) (write_faults link) (sure link))
    (outgoing (tells done.link) (written done.link) (write_faults done.link) (sure link))
    1099511627776 done.end
    → after.posted ≡ before.posted + done.entered
    → HasServed tells stream read_faults reads written write_faults conf after.front done
has_served tells stream read_faults reads written write_faults sure conf before after link done fresh told ran entered = record {
  handed = record { stream = stream link; read_faults = read_faults link; reads = reads link; written = written link; write_faults = write_faults link; sure = sure link };
  fresh = subst (λ (t : Bool). IsFresh (IsTrue t) (stream link) (written link)) (sym told) fresh;
  before = before;
  after = after;
  ran = subst (λ (t : Bool). Replayed (SeatRan conf before after)
      (incoming t (stream link) (read_faults link) (reads link))
      (incoming (tells done.link) (stream done.link) (read_faults done.link) (reads done.link))
      (outgoing t (written link) (write_faults link) (sure link))
      (outgoing (tells done.link) (written done.link) (write_faults done.link) (sure link))
      1099511627776 done.end) (sym told) ran;
  entered = entered;
  begins = begins_self after.front;
}
