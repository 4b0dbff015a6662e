-- What the loop of a follower knows on its way.
use Rattle.std.specs.Prelude.{◌≡◌, ℕ, ◌≤◌, false, IsTrue, List, [], ◌∷◌, ◌++◌, length, Result, Ok, Err}
use Rattle.std.specs.List.{list_any}
use Rattle.gj_base.specs.declared.history.Shown.{Shown}
use Rattle.gj_base.specs.History.{end_of}
use Rattle.gj_pages.specs.Answers.{answer_at, answers, last_line, page_in, pages_in}
use Rattle.gj_pages.specs.Following.{Ended, Grown}
use Rattle.gj_pages.specs.Lines.{is_long, lines_of, rest_of}
use Rattle.gj_base.specs.Streams.{Incoming, Outgoing, FailedOnce, Took, Wrote, WrotePart}
use Rattle.gj_pages.specs.declared.end.FollowEnd.{FollowEnd}
use Rattle.gj_pages.specs.declared.end.FollowEnd.TheVariants.{Done, Truncated, LongLine, WriteFault, Memory}

-- all of it went out, or a proper beginning
abbrev pub GaveOut : {A E : Type 0} → Outgoing → Outgoing → List ℕ → Result A E → Type 0
GaveOut o p whole (Ok _) = Wrote o p whole
GaveOut o p whole (Err _) = WrotePart o p [] whole

-- a line was taken and answered, or its answer was cut, or memory was wanting and nothing done
abbrev pub LineTaken : {A : Type 0} → Shown → Shown → Outgoing → Outgoing → List ℕ → Result A FollowEnd → Type 0
LineTaken a b o p line (Ok _) = Grown a b (pages_in (line ∷ [])) × Wrote o p (answer_at (end_of a) (page_in line))
LineTaken a b o p line (Err WriteFault) = Grown a b (pages_in (line ∷ [])) × WrotePart o p [] (answer_at (end_of a) (page_in line))
LineTaken a b o p line (Err Memory) = (b ≡ a) × (p ≡ o)
LineTaken a b o p line (Err _) = ⊥

-- a follower that goes on: all whole lines of the bytes were answered, what follows them is held, and none of it is
-- longer than a line may be
pub record GoesOn (a b : Shown) (o p : Outgoing) (bytes held : List ℕ) : Type 0 where
  pub lines : List (List ℕ)
  pub are : lines_of bytes ≡ lines
  pub rest : rest_of bytes ≡ held
  pub short : list_any is_long lines ≡ false
  pub few : length held ≤ 1048576
  pub grown : Grown a b (pages_in lines)
  pub wrote : Wrote o p (answers (end_of a) lines)

-- the end came of a line, and not of the input's end
abbrev pub IsByLine : FollowEnd → Type 0
IsByLine LongLine = Unit {0}
IsByLine WriteFault = Unit {0}
IsByLine Memory = Unit {0}
IsByLine _ = ⊥

-- a piece was taken: the follower goes on, or ended
abbrev pub Fed : {A : Type 0} → Shown → Shown → Outgoing → Outgoing → List ℕ → List ℕ → Result A FollowEnd → Type 0
Fed a b o p bytes held (Ok _) = GoesOn a b o p bytes held
Fed a b o p bytes held (Err end) = Ended a b o p bytes end

-- how a follower ends where its input does
abbrev pub AtEnd : FollowEnd → Shown → Outgoing → Outgoing → List ℕ → Type 0
AtEnd Done b o p held = (held ≡ []) × Wrote o p (last_line b)
AtEnd Truncated b o p held = (held ≡ [] → ⊥) × (p ≡ o)
AtEnd WriteFault b o p held = (held ≡ []) × WrotePart o p [] (last_line b)
AtEnd _ b o p held = ⊥

-- a piece of the input was taken, and none where the input ended
pub record TookPiece (i j : Incoming) (piece : List ℕ) : Type 0 where
  pub took : Took i j piece 1
  pub same : j.faults ≡ i.faults
  pub end : IsTrue i.tells → piece ≡ [] → i.stream.left ≡ []

-- a read failed
pub record TookNone (i j : Incoming) : Type 0 where
  pub took : Took i j [] 1
  pub failed : FailedOnce i.faults j.faults

-- a follower that goes on: these bytes were taken in so many reads
pub record InRun (a b : Shown) (i j : Incoming) (o p : Outgoing) (held : List ℕ) (reads : ℕ) : Type 0 where
  pub bytes : List ℕ
  pub took : Took i j bytes reads
  pub same : j.faults ≡ i.faults
  pub goes : GoesOn a b o p bytes held
  pub many : reads ≤ length bytes
