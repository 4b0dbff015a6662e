use Rattle.gj_keep.specs.MemoryStores.{kept_by}
use Rattle.gj_keep.specs.Openings.{opening_of}
use Rattle.gj_publish_uses.proofs.tests.over.Given as goal

abbrev pub ghosts-posts_over-J-Opening : goal.ghosts-posts_over-J-Opening
ghosts-posts_over-J-Opening g a = record { book = a.naming.history; places = 1; conf = a.conf; opening = opening_of (kept_by a.keeper) }

abbrev pub ghosts-posts_over-J-Ledger : goal.ghosts-posts_over-J-Ledger
ghosts-posts_over-J-Ledger g a = record { name = a.naming.blank.name; parts = a.naming.blank.parts }
