-- How far a session has come, and how far a message may lead it.
use Rattle.std.specs.Prelude.{◌≡◌, ℕ, ◌==◌, Bool, true, false, List, count_by}
use Rattle.gj_base.specs.History.{Begins}
use Rattle.gj_base.specs.declared.history.History.{History}
use Rattle.gj_once.specs.declared.verdict.LastBatch.{LastBatch}

-- how many entries of the history are by the seat with this number
abbrev pub entries_of : ℕ → History → ℕ
entries_of seat h = count_by (λ e. e.by == seat) h.entries

-- how far a session has come: what its seat has seen of the history, how many interactions have entered through it, and in
-- a run alone what is noted last of each producer; beside other seats that list says nothing, and stays what it is
pub record Mark : Type 0 where
  pub seen : History
  pub entered : ℕ
  pub noted : List LastBatch

-- at the end of a history, where this is noted
abbrev pub mark_at : ℕ → History → List LastBatch → Mark
mark_at seat h noted = record { seen = h; entered = entries_of seat h; noted = noted }

-- the histories that a message may meet: alone, the one that the last message left; beside other seats, each that begins
-- with it
abbrev pub Meets : Bool → History → History → Type 0
Meets true h g = g ≡ h
Meets false h g = Begins h g

-- the seat has seen a history that it met, and nothing has entered
abbrev pub Moves : Bool → Mark → Mark → Type 0
Moves alone a b = Meets alone a.seen b.seen × (b.entered ≡ a.entered)
