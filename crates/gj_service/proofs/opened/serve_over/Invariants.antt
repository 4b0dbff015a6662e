use Rattle.gj_keep.specs.Openings.{opening_of}
use Rattle.gj_service.proofs.opened.serve_over.Given as goal

-- the book and the ledger that were just made, and the history of what the keeper tells
abbrev pub ghosts-serve_named-J-Opening : goal.ghosts-serve_named-J-Opening
ghosts-serve_named-J-Opening g a = record { book = a.naming.history; places = a.plan.workers; conf = a.conf; opening = opening_of (g.K.Keeper.kept a.keeper) }

abbrev pub ghosts-serve_named-J-Ledger : goal.ghosts-serve_named-J-Ledger
ghosts-serve_named-J-Ledger g a = record { name = a.naming.blank.name; parts = a.naming.blank.parts }
