use Rattle.std.proofs.Common.{Some}
use Rattle.gj_base.specs.History.{empty_history}
use Rattle.gj_serve_uses.proofs.serving.two_workers.Given as goal

abbrev pub ghosts-over_index-J-Opening : goal.ghosts-over_index-J-Opening
ghosts-over_index-J-Opening g a = record { book = a.naming.history; places = 2; conf = a.conf; opening = Some (empty_history 0) }

abbrev pub ghosts-over_index-J-Ledger : goal.ghosts-over_index-J-Ledger
ghosts-over_index-J-Ledger g a = record { name = a.naming.blank.name; parts = a.naming.blank.parts }
