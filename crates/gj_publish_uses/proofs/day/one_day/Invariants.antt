use Rattle.gj_keep.specs.Openings.{opening_of}
use Rattle.gj_publish_uses.proofs.day.one_day.Given as goal

-- the book and the ledger that were just made, and the history of what the keeper tells
abbrev pub ghosts-named_day-J-Opening : goal.ghosts-named_day-J-Opening
ghosts-named_day-J-Opening g a = record { book = a.naming.history; places = a.places; conf = a.conf; opening = opening_of (g.K.Keeper.kept a.keeper) }

abbrev pub ghosts-named_day-J-Ledger : goal.ghosts-named_day-J-Ledger
ghosts-named_day-J-Ledger g a = record { name = a.naming.blank.name; parts = a.naming.blank.parts }
