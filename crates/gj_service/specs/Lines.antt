-- The two lines of a service. Own: their texts.
use Rattle.std.specs.Prelude.{◌≡◌, ℕ, ◌<◌, List, ◌++◌, IsTrue, codes, length, Result, Ok, Err}
use Rattle.std.specs.Fmt.{decimal}
use Rattle.gj_base.specs.Causes.{Rose}
use Rattle.gj_base.specs.Streams.{AppendsPart, Outgoing, Wrote}

-- words and a number
abbrev pub numbered : List ℕ → ℕ → List ℕ
numbered words number = words ++ decimal number

-- the port is open
unfoldable pub ready_line : ℕ → List ℕ
ready_line port = numbered (codes "ready ") port ++ codes "\n"

-- how many connections were served, and how long the history is then
unfoldable pub last_line : ℕ → ℕ → List ℕ
last_line sessions length = numbered (codes "sessions ") sessions ++ (numbered (codes " length ") length ++ codes "\n")

abbrev pub both_lines : ℕ → ℕ → ℕ → List ℕ
both_lines port sessions length = ready_line port ++ last_line sessions length

-- a proper beginning of the bytes was written; then a write failed, and there was no room for all of them
pub record WroteBeginning (old new : Outgoing) (bytes : List ℕ) : Type 0 where
  pub told : new.tells ≡ old.tells
  pub part : IsTrue old.tells → AppendsPart old.written new.written bytes
  pub failed : Rose old.faults new.faults
  pub spent : old.sure < length bytes

-- all of the bytes at Ok, a proper beginning at Err
abbrev pub Went : {A E : Type 0} → Outgoing → Outgoing → List ℕ → Result A E → Type 0
Went old new bytes (Ok _) = Wrote old new bytes
Went old new bytes (Err _) = WroteBeginning old new bytes
