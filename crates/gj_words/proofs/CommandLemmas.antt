-- A command, and one option more.
use Rattle.std.proofs.Common.{◌≡◌, ◌∙◌, false, Result, Ok, Err, IfOk, ap}
use Rattle.clap.specs.Built.{AddsArg}
use Rattle.clap.specs.Simple.{App, app_of, with_rule}
use Rattle.clap.specs.Walk.{Rule, rule_of}
use Rattle.clap.specs.declared.builder.arg.Arg.{Arg}
use Rattle.clap.specs.declared.builder.command.Command.{Command}

pub with_option : (old new : Command) (a : Arg) (app : App) (rule : Rule) → AddsArg old a new → a.global ≡ false → app_of old ≡ app → rule_of a ≡ rule → app_of new ≡ with_rule app rule
with_option old new a app rule adds local same rules = adds.shape local ∙ ap (λ app. with_rule app (rule_of a)) same ∙ ap (with_rule app) rules

-- the same, of the last step, which may find no memory
pub with_last : {E : Type 0} (old : Command) (r : Result Command E) (a : Arg) (app : App) (rule : Rule) → IfOk r (AddsArg old a) → a.global ≡ false → app_of old ≡ app → rule_of a ≡ rule → IfOk r (λ new. app_of new ≡ with_rule app rule)
with_last old (Ok new) a app rule adds local same rules = with_option old new a app rule adds local same rules
with_last old (Err e) a app rule adds local same rules = tt
