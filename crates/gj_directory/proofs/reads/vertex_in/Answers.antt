use Rattle.std.proofs.Common.{◌≡◌, List, IfSome, ap, sym, subst, ◌∙◌, filter, slice_get}
use Rattle.gj_base.specs.declared.mask.Mask.{Mask}
use Rattle.gj_base.specs.Kinds.{all_kinds}
use Rattle.gj_compact.specs.declared.edge.End.{End}
use Rattle.gj_compact.specs.Blocks.{lets_through}
use Rattle.gj_compact.specs.Lanes.{run_of}
use Rattle.gj_directory.proofs.ReadLemmas.{let_all, all_mask}
use Rattle.gj_directory.proofs.reads.vertex_in.Goals as goal

pub returns-then-eq : goal.returns-then-eq
returns-then-eq c =
    let run = run_of c.args.lane.now.runs c.args.v in
    let is : c.args.mask ≡ all_kinds = all_mask c.args.mask c.all.result c.all.ensures.exact (sym c.eq.ensures ∙ c.if-eq.true) in
    let same : filter (lets_through c.args.mask) run ≡ run = ap (λ (mask : Mask). filter (lets_through mask) run) is ∙ let_all run in
    subst (λ (l : List End). IfSome (slice_get l c.args.i) (λ (end : End). c.vertex.result ≡ end.vertex)) (sym same) c.vertex.ensures
