use Rattle.std.proofs.Common.{arith, refl}
use Rattle.gj_http.proofs.HintLemmas.{no_hint}
use Rattle.gj_http.proofs.framer.Framer.reset.Goals as goal

pub invariant_of-self : goal.invariant_of-self
invariant_of-self c = (omega arith, omega arith, omega arith, no_hint _ _ refl refl refl)
