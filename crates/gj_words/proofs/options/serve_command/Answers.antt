use Rattle.gj_words.specs.Options.{serve_app}
use Rattle.gj_words.proofs.CommandLemmas.{with_last, with_option}
use Rattle.gj_words.proofs.options.serve_command.Goals as goal

pub returns : goal.returns
unfolding serve_app
returns c =
    let stored = with_option _ _ _ _ _ c.in_ok-arg.ensures c.option.ensures.local c.in_ok-window_command.ensures c.option.ensures.rule in
    let worked = with_option _ _ _ _ _ c.in_ok-arg-2.ensures c.option-2.ensures.local stored c.option-2.ensures.rule in
    let held = with_option _ _ _ _ _ c.in_ok-arg-3.ensures c.option-3.ensures.local worked c.option-3.ensures.rule in
    with_last _ _ _ _ _ c.arg-4.ensures c.option-4.ensures.local held c.option-4.ensures.rule
