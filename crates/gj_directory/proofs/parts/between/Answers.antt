use Rattle.std.proofs.Common.{◌-◌, ◌∙◌, List, take, drop, ap}
use Rattle.gj_compact.specs.declared.edge.Edge.{Edge}
use Rattle.gj_directory.proofs.ListLemmas.{between_both}
use Rattle.gj_directory.proofs.parts.between.Goals as goal

pub returns : goal.returns
returns c =
    let front = c.as_slices.result.0.now in
    let back = c.as_slices.result.1.now in
    rw (c.min-2.ensures, c.min.ensures, c.saturating_sub-2.ensures, c.saturating_sub.ensures)
    (between_both front back c.args.from c.args.to c.requires.order ∙ ap (λ (l : List Edge). take (c.args.to - c.args.from) (drop c.args.from l)) c.as_slices.ensures.items)
