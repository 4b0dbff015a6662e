use Rattle.std.proofs.Common.{ℕ, List, subst}
use Rattle.gj_base.specs.declared.item.Entry.{Entry}
use Rattle.gj_base.specs.declared.history.History.{History}
use Rattle.gj_base.specs.History.{Begins}
use Rattle.gj_log.specs.Entered.{history_of}
use Rattle.gj_log.proofs.Fronts.{begins_of}
use Rattle.gj_log.proofs.scribe.Scribe.confirm.Goals as goal

pub returns-clause-begins : goal.returns-clause-begins
returns-clause-begins g c =
    let all : List (ℕ × List Entry) = c.confirm.new.self.0 in
    subst (λ (f : History). Begins f (history_of all)) c.token.ensures.seen.1 (begins_of c.token.result.now.log all c.token.ensures.some c.confirm.ensures.begins)
