use Rattle.std.proofs.Common.{Some}
use Rattle.gj_base.specs.History.{empty_history}
use Rattle.gj_publish_uses.proofs.tests.the_second_batch_comes_behind_the_first.Given as goal

abbrev pub ghosts-two_batches-J-Opening : goal.ghosts-two_batches-J-Opening
ghosts-two_batches-J-Opening g a = record { book = a.naming.history; places = 1; conf = a.conf; opening = Some (empty_history 0) }

abbrev pub ghosts-two_batches-J-Ledger : goal.ghosts-two_batches-J-Ledger
ghosts-two_batches-J-Ledger g a = record { name = a.naming.blank.name; parts = a.naming.blank.parts }
