use Rattle.std.proofs.Common.{Some}
use Rattle.gj_base.specs.History.{empty_history}
use Rattle.gj_session_uses.proofs.served_tests.served.Given as goal

abbrev pub ghosts-in_turn-J-Opening : goal.ghosts-in_turn-J-Opening
ghosts-in_turn-J-Opening g a = record { book = a.naming.history; places = 1; conf = a.conf; opening = Some (empty_history 0) }

abbrev pub ghosts-in_turn-J-Ledger : goal.ghosts-in_turn-J-Ledger
ghosts-in_turn-J-Ledger g a = record { name = a.naming.blank.name; parts = a.naming.blank.parts }
