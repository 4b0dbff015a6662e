-- The streams at one moment, and what was taken and written between two.
use Rattle.std.specs.Prelude.{◌≡◌, ℕ, ◌+◌, ◌<◌, ◌≤◌, Bool, IsTrue, List, ◌++◌, length, take, Result, Ok, Err}
use Rattle.gj_base.specs.Causes.{one_more, RoseBy}
use Rattle.gj_base.specs.Stream.{Reading}

-- the bytes that come in: whether they are told, those taken and left, how often a read failed, and how many were made
pub record Incoming : Type 0 where
  pub tells : Bool
  pub stream : Reading
  pub faults : ℕ
  pub reads : ℕ

abbrev pub incoming : Bool → Reading → ℕ → ℕ → Incoming
incoming tells stream faults reads = record { tells = tells; stream = stream; faults = faults; reads = reads }

-- the bytes that go out: whether they are told, those written, how often a write failed, and for how many more there is room
pub record Outgoing : Type 0 where
  pub tells : Bool
  pub written : List ℕ
  pub faults : ℕ
  pub sure : ℕ

abbrev pub outgoing : Bool → List ℕ → ℕ → ℕ → Outgoing
outgoing tells written faults sure = record { tells = tells; written = written; faults = faults; sure = sure }

-- one call failed
pub record FailedOnce (before now : ℕ) : Type 0 where
  pub once : now ≡ one_more before
  pub later : before ≤ now

-- so many calls were made: their count rose by as many, or it stands still at the last value of a u64
pub record Made (n before now : ℕ) : Type 0 where
  pub low : RoseBy n before now
  pub high : now ≤ before + n

-- the bytes that a source gave since
pub record TookAll (before after : Reading) (bytes : List ℕ) : Type 0 where
  pub taken : after.taken ≡ before.taken ++ bytes
  pub left : before.left ≡ bytes ++ after.left

-- these bytes were taken in so many reads
pub record Took (a b : Incoming) (bytes : List ℕ) (n : ℕ) : Type 0 where
  pub told : b.tells ≡ a.tells
  pub all : IsTrue a.tells → TookAll a.stream b.stream bytes
  pub made : Made n a.reads b.reads

-- these bytes were written, and no call failed
pub record Wrote (a b : Outgoing) (bytes : List ℕ) : Type 0 where
  pub told : b.tells ≡ a.tells
  pub all : IsTrue a.tells → b.written ≡ a.written ++ bytes
  pub same : b.faults ≡ a.faults
  pub spent : a.sure ≤ b.sure + length bytes

-- these bytes were written, and of the ones after them a proper beginning; then a call failed, and there was no more room
pub record WrotePart (a b : Outgoing) (bytes whole : List ℕ) : Type 0 where
  pub told : b.tells ≡ a.tells
  pub count : ℕ
  pub part : count < length whole
  pub all : IsTrue a.tells → b.written ≡ (a.written ++ bytes) ++ take count whole
  pub failed : FailedOnce a.faults b.faults
  pub spent : a.sure ≤ length bytes + count

-- a proper beginning of whole was appended
abbrev pub AppendsPart : List ℕ → List ℕ → List ℕ → Type 0
AppendsPart old new whole = (k : ℕ) × (k < length whole) × (new ≡ old ++ take k whole)

-- all of it at Ok, a proper beginning at Err
abbrev pub Sent : {A E : Type 0} → List ℕ → List ℕ → List ℕ → Result A E → Type 0
Sent old new whole (Ok _) = new ≡ old ++ whole
Sent old new whole (Err _) = AppendsPart old new whole
