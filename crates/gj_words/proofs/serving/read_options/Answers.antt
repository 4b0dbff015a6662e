use Rattle.std.proofs.Common.{◌≡◌, ◌∙◌, Err, ap}
use Rattle.std.proofs.lemmas.Result.{err_from_is_err_and}
use Rattle.clap.specs.Faults.{is_simple_and_free}
use Rattle.gj_words.specs.Options.{serve_app}
use Rattle.gj_words.specs.Tasks.{service_in}
use Rattle.gj_words.specs.declared.task.WordsError.TheVariants.{Usage}
use Rattle.gj_words.proofs.OptionLemmas.{serve_simple, under_taken, under_refused}
use Rattle.gj_words.proofs.serving.read_options.Goals as goal

pub matches_by-requires : goal.matches_by-requires
matches_by-requires c = ap is_simple_and_free c.in-Ok.ensures ∙ serve_simple

pub returns-clause-usage : goal.returns-clause-usage
returns-clause-usage c = λ _. under_taken _ serve_app service_in _ _ _ c.in-Ok.ensures c.in_ok-matches.ensures.taken c.in_ok-matches.ensures.rows c.in-None.ensures.exact

pub returns-in-Some-clause-ok : goal.returns-in-Some-clause-ok
returns-in-Some-clause-ok c = under_taken _ serve_app service_in _ _ _ c.in-Ok.ensures c.in_ok-matches.ensures.taken c.in_ok-matches.ensures.rows c.in-Some.ensures.exact

pub returns-in_err-matches : goal.returns-in_err-matches
returns-in_err-matches c =
    let p = err_from_is_err_and c.from_residual.result c.from_residual.ensures.1 in
    rw (p.1, p.2) (record {
      ok = tt;
      usage = λ usage.
          let same : c.in_err-matches.field-0.0 ≡ Usage = cc in
          under_refused _ serve_app service_in _ c.in-Ok.ensures (c.in_err-matches.ensures.usage (ap Err same));
      in_range = tt;
    })
