use Rattle.std.proofs.Common.{Some}
use Rattle.gj_base.specs.History.{empty_history}
use Rattle.gj_serve_uses.proofs.loopback_tests.served.Given as goal

abbrev pub ghosts-served_by-J-Opening : goal.ghosts-served_by-J-Opening
ghosts-served_by-J-Opening g a = record { book = a.naming.history; places = 1; conf = a.conf; opening = Some (empty_history 0) }

abbrev pub ghosts-served_by-J-Ledger : goal.ghosts-served_by-J-Ledger
ghosts-served_by-J-Ledger g a = record { name = a.naming.blank.name; parts = a.naming.blank.parts }
