use Rattle.gj_keep.specs.MemoryStores.{kept_by}
use Rattle.gj_keep.specs.Openings.{opening_of}
use Rattle.gj_publish_uses.proofs.noted_tests.called.Given as goal

abbrev pub ghosts-called_over-J-Opening : goal.ghosts-called_over-J-Opening
ghosts-called_over-J-Opening g a = record { book = a.naming.history; places = 2; conf = a.conf; opening = opening_of (kept_by a.keeper) }

abbrev pub ghosts-called_over-J-Ledger : goal.ghosts-called_over-J-Ledger
ghosts-called_over-J-Ledger g a = record { name = a.naming.blank.name; parts = a.naming.blank.parts }
