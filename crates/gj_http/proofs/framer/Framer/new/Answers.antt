use Rattle.std.proofs.Common.{arith, refl}
use Rattle.gj_http.proofs.HintLemmas.{no_hint}
use Rattle.gj_http.proofs.framer.Framer.new.Goals as goal

pub invariant_of-result : goal.invariant_of-result
invariant_of-result c = (
  omega arith,
  omega (arith, c.in-Ok.ensures.len),
  omega (arith, c.in-Ok.ensures.exact),
  no_hint _ _ refl refl refl,
)
