use Rattle.std.proofs.Common.{◌≡◌, arith, ap, sym, ◌∙◌}
use Rattle.std.proofs.lemmas.List.{take_rest}
use Rattle.gj_http.specs.Cut.{close_of_head}
use Rattle.gj_http.proofs.FrontLemmas.{head_end_step}
use Rattle.gj_http.proofs.front.head_end_in.Goals as goal

pub loop-i-preserved : goal.loop-i-preserved
loop-i-preserved c =
    let none : c.close_at-close.result ≡ 0 = omega arith in
    let here = c.close_at-close.ensures.exact ∙ ap close_of_head (take_rest c.args.bytes.now c.loop-i.i) in
    head_end_step c.args.bytes.now c.loop-i.i _ (omega arith) (sym here ∙ none) c.loop-i.invariant
