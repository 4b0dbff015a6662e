use Rattle.std.proofs.Common.{◌∙◌, ap}
use Rattle.clap.specs.Words.{found_of}
use Rattle.clap.proofs.WalkLemmas.{first_value-rows}
use Rattle.gj_words.specs.Values.{number_in}
use Rattle.gj_words.proofs.reading.number_option.Goals as goal

pub returns-in-None-clause-exact : goal.returns-in-None-clause-exact
returns-in-None-clause-exact c =
    ap (number_in c.args.range c.args.default) (c.in-None.ensures ∙ first_value-rows (found_of c.args.matches.now) c.args.name.now)

pub returns-in-Some-clause-exact : goal.returns-in-Some-clause-exact
returns-in-Some-clause-exact c =
    c.number_of.ensures
    ∙ ap (number_in c.args.range c.args.default) (c.in-Some.ensures ∙ first_value-rows (found_of c.args.matches.now) c.args.name.now)
