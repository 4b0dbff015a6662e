-- The options of the commands, and their values.
use Rattle.std.proofs.Common.{◌≡◌, ℕ, ◌&&◌, Bool, true, false, List, [], ◌∷◌, length, refl, sym, arith, inl, inr, ◌⊎◌, ne_eqb}
use Rattle.std.specs.Prelude.{Option, Some, None}
use Rattle.clap.specs.Faults.{fault_of, is_simple_and_free}
use Rattle.clap.specs.Kinds.{IsAmong, Kinds}
use Rattle.clap.specs.Simple.{App, matches_of}
use Rattle.clap.specs.Walk.{Row, Text, is_empty}
use Rattle.clap.specs.declared.error.kind.ErrorKind.{ErrorKind}
use Rattle.clap.specs.declared.error.kind.ErrorKind.TheVariants.{OutOfMemory}
use Rattle.gj_words.specs.Options.{replay_app, load_app, follow_app, serve_app}
use Rattle.gj_words.specs.Tasks.{asked_of, service_of, under}
use Rattle.gj_words.specs.Values.{path_in}

-- an empty path is refused
pub path_none : (text : List ℕ) → length text ≡ 0 → None ≡ path_in (Some text)
path_none [] e = refl
path_none (x ∷ text) e = absurd (omega arith)

-- any other path is taken
pub path_some : (text : List ℕ) → (length text ≡ 0 → ⊥) → Some (Some text) ≡ path_in (Some text)
path_some [] some = absurd (some refl)
path_some (x ∷ text) some = refl

pub replay_simple : is_simple_and_free replay_app ≡ true
unfolding replay_app
replay_simple = refl

pub load_simple : is_simple_and_free load_app ≡ true
unfolding load_app
load_simple = refl

pub follow_simple : is_simple_and_free follow_app ≡ true
unfolding follow_app
follow_simple = refl

pub first_of_both : (a b : Bool) → (a && b) ≡ true → a ≡ true
first_of_both true b e = refl
first_of_both false b e = cc

-- an error that isn't want of memory has a kind among the faults
pub refused_of : (why : ErrorKind) (faults : Kinds) → (why ≡ OutOfMemory → ⊥) → (why ≡ OutOfMemory) ⊎ IsAmong why faults → is_empty faults ≡ false
refused_of why (fault ∷ faults) other among = ne_eqb _ _ (λ same. omega arith)
refused_of why [] other (inl memory) = absurd (other memory)
refused_of why [] other (inr none) = absurd none

-- without a first argument nothing is asked for
pub none_asked : (words : List (List ℕ)) → length words ≡ 0 → asked_of words ≡ None
unfolding asked_of
none_asked [] e = refl
none_asked (word ∷ words) e = absurd (omega arith)

pub serve_simple : is_simple_and_free serve_app ≡ true
unfolding serve_app
serve_simple = refl

pub none_served : (words : List (List ℕ)) → length words ≡ 0 → service_of words ≡ None
unfolding service_of
none_served [] e = refl
none_served (word ∷ words) e = absurd (omega arith)

-- what a command's rows are read as, where clap takes the words
pub under_taken : {A : Type 0} (given app : App) (reads : List Row → Option A) (words : List Text) (rows : List Row) (x : Option A) → given ≡ app → is_empty (fault_of given words) ≡ true → rows ≡ matches_of given words → x ≡ reads rows → under app reads words ≡ x
under_taken given app reads words rows x same taken laid read = rw (← same, taken, ← laid) (sym read)

-- where clap refuses the words, nothing is asked for
pub under_refused : {A : Type 0} (given app : App) (reads : List Row → Option A) (words : List Text) → given ≡ app → is_empty (fault_of given words) ≡ false → under app reads words ≡ None
under_refused given app reads words same refused = rw (← same, refused) refl
