use Rattle.std.proofs.Common.{◌≡◌, ◌∙◌, ap, codes, rules}
use Rattle.std.specs.Prelude.{Some}
use Rattle.clap.specs.Words.{first_of, found_of, rows_of}
use Rattle.clap.proofs.WalkLemmas.{first_value-rows}
use Rattle.gj_words.specs.Values.{path_in}
use Rattle.gj_words.proofs.OptionLemmas.{path_none, path_some}
use Rattle.gj_words.proofs.reading.path_option.Goals as goal

pub returns-in-None : goal.returns-in-None
returns-in-None c = ap path_in (c.in-None.ensures ∙ first_value-rows (found_of c.args.matches.now) (codes "store"))

pub returns-then-is_empty : goal.returns-then-is_empty
returns-then-is_empty c =
    let is : Some c.in-Some.path.now ≡ first_of (codes "store") (rows_of (found_of c.args.matches.now)) = c.in-Some.ensures ∙ first_value-rows (found_of c.args.matches.now) (codes "store") in
    path_none c.in-Some.path.now (search rules) ∙ ap path_in is

pub returns-else-is_empty : goal.returns-else-is_empty
returns-else-is_empty c =
    let is : Some c.in-Some.path.now ≡ first_of (codes "store") (rows_of (found_of c.args.matches.now)) = c.in-Some.ensures ∙ first_value-rows (found_of c.args.matches.now) (codes "store") in
    path_some c.in-Some.path.now (λ e. search rules) ∙ ap path_in is
