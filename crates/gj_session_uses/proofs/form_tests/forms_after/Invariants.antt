use Rattle.std.proofs.Common.{Some}
use Rattle.gj_base.specs.History.{empty_history}
use Rattle.gj_session_uses.proofs.form_tests.forms_after.Given as goal

abbrev pub ghosts-forms_by-J-Opening : goal.ghosts-forms_by-J-Opening
ghosts-forms_by-J-Opening g a = record { book = a.naming.history; places = 1; conf = a.conf; opening = Some (empty_history 0) }

abbrev pub ghosts-forms_by-J-Ledger : goal.ghosts-forms_by-J-Ledger
ghosts-forms_by-J-Ledger g a = record { name = a.naming.blank.name; parts = a.naming.blank.parts }
