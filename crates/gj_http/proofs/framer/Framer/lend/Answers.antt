use Rattle.std.proofs.Common.{arith, refl, ap, length, length-drop}
use Rattle.std.proofs.lemmas.Grind.{common_steps}
use Rattle.gj_http.specs.Held.{Held}
use Rattle.gj_http.proofs.HintLemmas.{no_hint}
use Rattle.gj_http.proofs.framer.Framer.lend.Goals as goal

pub invariant_of-self : goal.invariant_of-self
invariant_of-self c =
    let held = ap (λ (h : Held). length h.bytes) c.self.view_is in
    let left = length-drop c.self.inside.start c.self.inside.bytes.items in (
      grind (arith, common_steps, held, left, c.requires.body),
      omega arith,
      omega arith,
      no_hint _ _ refl refl refl,
    )
