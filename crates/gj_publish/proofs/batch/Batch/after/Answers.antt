use Rattle.std.proofs.Common.{◌≡◌, ◌∙◌, ap, subst}
use Rattle.gj_base.specs.History.{entries_by, extend}
use Rattle.gj_publish.specs.Posted.{BatchView}
use Rattle.gj_publish.proofs.batch.Batch.after.Goals as goal

pub returns : goal.returns
returns g c =
    let Adds : BatchView → Type 0 = λ b. c.again.result ≡ extend b.before (entries_by b.by b.items) in record {
      result = c.again.ensures ∙ ap (λ b. b.after) c.self.view_is;
      adds = subst Adds c.self.view_is (c.again.ensures ∙ c.self.invariant);
    }
