use Rattle.std.proofs.Common.{Some}
use Rattle.gj_base.specs.History.{empty_history}
use Rattle.gj_publish_uses.proofs.tests.the_poster_sees_the_sixteen_interactions_that_it_posted.Given as goal

abbrev pub ghosts-two_seats-J-Opening : goal.ghosts-two_seats-J-Opening
ghosts-two_seats-J-Opening g a = record { book = a.naming.history; places = 2; conf = a.conf; opening = Some (empty_history 0) }

abbrev pub ghosts-two_seats-J-Ledger : goal.ghosts-two_seats-J-Ledger
ghosts-two_seats-J-Ledger g a = record { name = a.naming.blank.name; parts = a.naming.blank.parts }
