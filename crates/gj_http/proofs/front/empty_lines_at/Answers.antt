use Rattle.std.proofs.Common.{◌<◌, arith, ap, drop, length-drop, ◌∙◌}
use Rattle.std.proofs.lemmas.List.{take_rest}
use Rattle.gj_http.specs.Cut.{empty_line}
use Rattle.gj_http.proofs.FrontLemmas.{empty_lines_none, empty_lines_step, empty_line-le-length}
use Rattle.gj_http.proofs.front.empty_lines_at.Goals as goal

pub returns-then-line-eq0-clause-exact : goal.returns-then-line-eq0-clause-exact
returns-then-line-eq0-clause-exact c =
    let line = c.empty_line_at-line.ensures.exact ∙ ap empty_line (take_rest c.args.bytes.now c.loop-passed.passed) in
    let none = empty_lines_none (drop c.loop-passed.passed c.args.bytes.now) (omega (arith, line)) in
    omega (arith, none, c.loop-passed.invariant.so_far)

pub loop-passed-preserved : goal.loop-passed-preserved
loop-passed-preserved c =
    let line = c.empty_line_at-line.ensures.exact ∙ ap empty_line (take_rest c.args.bytes.now c.loop-passed.passed) in
    let some : 0 < c.empty_line_at-line.result = omega arith in
    let short = empty_line-le-length (drop c.loop-passed.passed c.args.bytes.now) in
    let left = length-drop c.loop-passed.passed c.args.bytes.now in
    record {
      within = omega (arith, short, left, line);
      so_far = empty_lines_step c.args.bytes.now c.loop-passed.passed c.empty_line_at-line.result _ line some c.loop-passed.invariant.so_far;
    }
