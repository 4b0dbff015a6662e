use Rattle.std.proofs.Common.{sym, subst, Option}
use Rattle.std.specs.Prelude.{IfSome}
use Rattle.gj_base.specs.declared.history.History.{History}
use Rattle.gj_base.specs.Configuration.{Configuration}
use Rattle.gj_base.specs.History.{Begins}
use Rattle.gj_keep.specs.Books.{Keeps}
use Rattle.gj_publish_uses.proofs.Openings.{opening_told}
use Rattle.gj_publish_uses.proofs.day.named_day.Goals as goal

pub returns : goal.returns
returns g c = record {
  keeps = λ tells.
      let h : History = c.held.ensures.0 in
      let kept : Keeps c.args.conf (g.K.Keeper.kept c.held.result.keeper) h = subst (λ (z : Configuration). Keeps z (g.K.Keeper.kept c.held.result.keeper) h) (sym c.requires.conf) c.held.ensures.1 in
      let known : IfSome g.J.Opening.opening (λ o. Begins o h) = c.held.ensures.3 in
      (h, kept, c.held.ensures.2, opening_told (g.K.Keeper.kept c.args.keeper) h tells (c.not_bare.ensures tells) (subst (λ (o : Option History). IfSome o (λ f. Begins f h)) c.requires.opening known));
}
