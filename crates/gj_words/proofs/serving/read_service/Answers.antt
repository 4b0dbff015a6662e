use Rattle.std.proofs.Common.{◌≡◌, ◌∙◌, ℕ, List, ◌∷◌, map, length, string_bytes, ap, sym, subst, IfOk, IsErrOf}
use Rattle.std.specs.Prelude.{Some, None}
use Rattle.std.proofs.lemmas.List.{length-map}
use Rattle.gj_words.specs.Tasks.{serving_by, service_of}
use Rattle.gj_words.specs.declared.task.WordsError.TheVariants.{Usage}
use Rattle.gj_words.proofs.OptionLemmas.{none_served}
use Rattle.gj_words.proofs.serving.read_service.Goals as goal

pub returns-in-None : goal.returns-in-None
returns-in-None c =
    let none : length c.args.words.now ≡ 0 = c.in-None.ensures.cases in
    record { ok = tt; usage = λ _. none_served _ (length-map c.args.words.now string_bytes ∙ none); in_range = tt }

pub returns-in-Some : goal.returns-in-Some
returns-in-Some c =
    let parts = c.in-Some.ensures.cases.0 in
    let same : c.as_str.result.now ∷ map string_bytes c.in-Some.options.now ≡ map string_bytes c.args.words.now
    = ap (λ (name : List ℕ). name ∷ map string_bytes c.in-Some.options.now) c.as_str.ensures.value ∙ ap (map string_bytes) (sym parts) in
    record {
      ok = subst (λ (words : List (List ℕ)). IfOk c.read_named.result (λ t. service_of words ≡ Some (serving_by t))) same c.read_named.ensures.ok;
      usage = subst (λ (words : List (List ℕ)). IsErrOf c.read_named.result Usage → service_of words ≡ None) same c.read_named.ensures.usage;
      in_range = c.read_named.ensures.in_range;
    }
