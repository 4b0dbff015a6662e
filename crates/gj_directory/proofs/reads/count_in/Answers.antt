use Rattle.std.proofs.Common.{◌≡◌, ap, sym, ◌∙◌, count_by}
use Rattle.gj_base.specs.declared.mask.Mask.{Mask}
use Rattle.gj_base.specs.Kinds.{all_kinds}
use Rattle.gj_compact.specs.Blocks.{lets_through}
use Rattle.gj_compact.specs.Lanes.{run_of}
use Rattle.gj_directory.proofs.ReadLemmas.{count_all, all_mask}
use Rattle.gj_directory.proofs.reads.count_in.Goals as goal

pub returns-then-eq : goal.returns-then-eq
returns-then-eq c =
    let run = run_of c.args.lane.now.runs c.args.v in
    let is : c.args.mask ≡ all_kinds = all_mask c.args.mask c.all.result c.all.ensures.exact (sym c.eq.ensures ∙ c.if-eq.true) in
    c.degree-degree.ensures ∙ (sym (count_all run) ∙ ap (λ (mask : Mask). count_by (lets_through mask) run) (sym is))
