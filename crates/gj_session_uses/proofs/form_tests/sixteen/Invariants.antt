use Rattle.std.proofs.Common.{◌≡◌, length}
use Rattle.gj_session_uses.proofs.form_tests.sixteen.Given as goal

abbrev pub invariant-loop-user : goal.invariant-loop-user
invariant-loop-user l = length l.items ≡ l.user
