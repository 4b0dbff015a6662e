-- What a follower took of an input, answered and wrote, and how it ended.
use Rattle.std.specs.Prelude.{◌≡◌, ◌⊎◌, ℕ, ◌≤◌, Bool, true, false, IsTrue, List, [], ◌∷◌, ◌++◌, length}
use Rattle.std.specs.List.{All, list_any}
use Rattle.gj_base.specs.declared.history.History.{History}
use Rattle.gj_base.specs.declared.history.Shown.{Shown}
use Rattle.gj_base.specs.History.{StandsFor, end_of}
use Rattle.gj_follow.specs.Follows.{IsOf, after_pages, part, reach}
use Rattle.gj_follow.specs.Pages.{Paged}
use Rattle.gj_pages.specs.Answers.{answer_at, answers, last_line, page_in, pages_in}
use Rattle.gj_pages.specs.Lines.{has_long, is_long, lines_of, rest_of}
use Rattle.gj_base.specs.Streams.{Incoming, Outgoing, FailedOnce, Took, Wrote, WrotePart}
use Rattle.gj_pages.specs.declared.end.FollowEnd.{FollowEnd}
use Rattle.gj_pages.specs.declared.end.FollowEnd.TheVariants.{Done, Truncated, LongLine, TooManyReads, ReadFault, WriteFault, Memory}

-- these pages were taken in order, whatever was lost, repeated or reordered among them: the follower shows what they
-- leave, its length is what they reach and never shrank, and it stands for this much of every history that they are of
pub record Grown (a b : Shown) (pages : List Paged) : Type 0 where
  pub shows : b ≡ after_pages a pages
  pub ends : end_of b ≡ reach (end_of a) pages
  pub later : end_of a ≤ end_of b
  pub stands : (h : History) (start : ℕ) → h.first ≤ start → All (IsOf h) pages → StandsFor a (part h start (end_of a))
      → StandsFor b (part h start (reach (end_of a) pages))

-- the lines are all whole ones of the bytes, and none is longer than a line may be
pub record AreAll (bytes : List ℕ) (lines : List (List ℕ)) : Type 0 where
  pub all : lines_of bytes ≡ lines
  pub short : has_long bytes ≡ false

-- the lines are those before the first longer one, with a line feed or without
pub record BeforeLong (bytes : List ℕ) (lines : List (List ℕ)) : Type 0 where
  pub longer : List ℕ
  pub others : List (List ℕ)
  pub parts : lines_of bytes ++ rest_of bytes ∷ [] ≡ lines ++ longer ∷ others
  pub long : is_long longer ≡ true

-- the answer to the last of the lines was cut: each before it was written whole, and of it a proper beginning
pub record CutAnswer (n : ℕ) (o p : Outgoing) (lines : List (List ℕ)) : Type 0 where
  pub done : List (List ℕ)
  pub last : List ℕ
  pub parts : lines ≡ done ++ last ∷ []
  pub wrote : WrotePart o p (answers n done) (answer_at (reach n (pages_in done)) (page_in last))

-- the input ended between lines, and the last line was cut
pub record CutLast (n : ℕ) (b : Shown) (o p : Outgoing) (bytes : List ℕ) (lines : List (List ℕ)) : Type 0 where
  pub all : AreAll bytes lines
  pub between : rest_of bytes ≡ []
  pub wrote : WrotePart o p (answers n lines) (last_line b)

-- how a follower ended, that took the pages of these lines and now shows b
abbrev pub Ends : FollowEnd → ℕ → Shown → Outgoing → Outgoing → List ℕ → List (List ℕ) → Type 0
Ends Done n b o p bytes lines = AreAll bytes lines × (rest_of bytes ≡ []) × Wrote o p (answers n lines ++ last_line b)
Ends Truncated n b o p bytes lines = AreAll bytes lines × (rest_of bytes ≡ [] → ⊥) × Wrote o p (answers n lines)
Ends LongLine n b o p bytes lines = BeforeLong bytes lines × Wrote o p (answers n lines)
Ends TooManyReads n b o p bytes lines = AreAll bytes lines × Wrote o p (answers n lines)
Ends ReadFault n b o p bytes lines = AreAll bytes lines × Wrote o p (answers n lines)
Ends WriteFault n b o p bytes lines = CutAnswer n o p lines ⊎ CutLast n b o p bytes lines
Ends Memory n b o p bytes lines = Wrote o p (answers n lines)

-- a follower that ended over these bytes: it took the pages of the first lines, of which none is longer than a line may be
pub record Ended (a b : Shown) (o p : Outgoing) (bytes : List ℕ) (end : FollowEnd) : Type 0 where
  pub lines : List (List ℕ)
  pub later : List (List ℕ)
  pub front : lines_of bytes ≡ lines ++ later
  pub short : list_any is_long lines ≡ false
  pub grown : Grown a b (pages_in lines)
  pub ends : Ends end (end_of a) b o p bytes lines

-- the whole input was taken
abbrev pub IsAll : FollowEnd → List ℕ → Type 0
IsAll Done left = left ≡ []
IsAll Truncated left = left ≡ []
IsAll _ left = Unit {0}

-- all reads that are allowed were made, and each took at least one byte
abbrev pub IsTurned : FollowEnd → ℕ → ℕ → List ℕ → Type 0
IsTurned TooManyReads reads turns bytes = (reads ≡ turns) × (turns ≤ length bytes)
IsTurned _ reads turns bytes = Unit {0}

-- the count of failed reads
abbrev pub FailedReads : FollowEnd → ℕ → ℕ → Type 0
FailedReads ReadFault before now = FailedOnce before now
FailedReads _ before now = now ≡ before

-- a whole run, by its end: what it took between two moments, what it answered, and what it wrote
pub record Followed (a b : Shown) (in_old in_new : Incoming) (out_old out_new : Outgoing) (turns : ℕ) (end : FollowEnd) : Type 0 where
  pub bytes : List ℕ
  pub reads : ℕ
  pub took : Took in_old in_new bytes reads
  pub few : reads ≤ turns
  pub turned : IsTurned end reads turns bytes
  pub all : IsTrue in_old.tells → IsAll end in_new.stream.left
  pub failed : FailedReads end in_old.faults in_new.faults
  pub ended : Ended a b out_old out_new bytes end

-- no fault, no want of memory and no count of reads ended the run
abbrev pub IsByInput : FollowEnd → Type 0
IsByInput Done = Unit {0}
IsByInput Truncated = Unit {0}
IsByInput LongLine = Unit {0}
IsByInput _ = ⊥
