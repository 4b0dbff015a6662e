use Rattle.std.proofs.Common.{◌≡◌, length}
use Rattle.gj_publish_uses.proofs.tests.clicks.Given as goal

abbrev pub invariant-loop-n : goal.invariant-loop-n
invariant-loop-n l = length l.items ≡ l.n
