use Rattle.std.proofs.Common.{◌≡◌, ap}
use Rattle.clap.specs.Walk.{is_empty}
use Rattle.gj_words.specs.declared.task.WordsError.TheVariants.{Usage}
use Rattle.gj_words.proofs.OptionLemmas.{first_of_both, refused_of}
use Rattle.gj_words.proofs.reading.matches_by.Goals as goal

pub returns-in-Ok : goal.returns-in-Ok
returns-in-Ok c = record {
  taken = ap is_empty (c.in-Ok.ensures.kinds c.requires);
  rows = (c.in-Ok.ensures.ok.2 (first_of_both _ _ c.requires)).0;
  usage = λ usage. cc;
}

pub returns : goal.returns
returns c = record {
  taken = tt;
  rows = tt;
  usage = λ usage.
      let same : c.why_of.result ≡ Usage = cc in
      refused_of _ _ (c.why_of.ensures.usage same) (c.in-Err.ensures.kinds c.requires);
}
