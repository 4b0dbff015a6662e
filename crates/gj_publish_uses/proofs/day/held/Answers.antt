use Rattle.std.proofs.Common.{◌≡◌, sym, ◌∙◌, ap}
use Rattle.gj_base.specs.History.{length_of}
use Rattle.gj_publish_uses.proofs.day.held.Goals as goal

pub returns : goal.returns
returns g c =
    let same : c.added-length.new.writer.accepted ≡ c.into_inner-writer.result.accepted = ap (λ v. v.accepted) c.added-length.ensures.same in
    (c.added-length.new.writer.accepted, c.into_keeper.ensures.keeps, c.added-length.ensures.exact ∙ ap length_of (sym same), c.start.ensures.opening)
