use Rattle.std.proofs.Common.{ℕ, ap, subst, arith, List}
use mathlib.Core.List.{IsPrefix}
use Rattle.gj_base.specs.declared.item.Entry.{Entry}
use Rattle.gj_log.proofs.Fronts.{history_same}
use Rattle.gj_log.proofs.front.Front.same.Goals as goal

pub returns-then-self-other : goal.returns-then-self-other
returns-then-self-other g c =
    let both = c.learn.new.self.log in
    let this : IsPrefix c.self.inside.seen.log both = subst (λ (l : List (ℕ × List Entry)). IsPrefix l both) (ap (λ s. s.log) c.again-both.ensures) c.learn.ensures.2 in
    rw (← c.self.view_is, ← c.other.view_is) (history_same c.self.inside.seen.log c.other.inside.seen.log both c.self.invariant.3 c.other.invariant.3 this c.learn.ensures.3 (omega (arith, c.self.invariant.0, c.other.invariant.0)))
