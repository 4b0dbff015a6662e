use Rattle.std.proofs.Common.{◌∙◌, ◌++◌, ap, codes, append_assoc, List, ℕ}
use Rattle.gj_program.specs.Lines.{conf_text, kept_line}
use Rattle.gj_program.proofs.lines.differing.Goals as goal

pub returns : goal.returns
unfolding kept_line
returns c =
    let kept = conf_text (codes "kept version ") c.args.kept in
    let asked = conf_text (codes ", asked version ") c.args.asked in
    c.push_str.ensures.bytes
    ∙ ap (λ (text : List ℕ). text ++ codes "\n") (c.put_conf-2.ensures.bytes
    ∙ ap (λ (text : List ℕ). text ++ asked) (c.put_conf.ensures.bytes ∙ ap (λ (text : List ℕ). text ++ kept) c.new-text.ensures))
    ∙ append_assoc kept asked (codes "\n")
