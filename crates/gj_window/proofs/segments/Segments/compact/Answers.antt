use Rattle.gj_window.proofs.FieldLemmas.{one_pooled}
use Rattle.gj_window.proofs.segments.Segments.compact.Goals as goal

pub returns-clause-pooled : goal.returns-clause-pooled
returns-clause-pooled c =
    one_pooled c.settle_newest.new.self c.settle_newest.ensures.older c.settle_newest.ensures.short c.settle_newest.ensures.whole
