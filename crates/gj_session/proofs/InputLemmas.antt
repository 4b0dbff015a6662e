-- The end of a session as a function of its whole input.
use Rattle.std.proofs.Common.{◌≡◌, ℕ, ◌==◌, ◌∙◌, ◌||◌, Bool, true, false, IsTrue, List, [], ◌∷◌, ◌++◌, length, Option, Some, None, refl, ap, sym, subst, append-nil, eq-eqb}
use Rattle.std.specs.List.{list_any}
use Rattle.std.proofs.lemmas.Bool.{ne_eqb}
use Rattle.std.proofs.lemmas.List.Folds.{list_any-append}
use Rattle.gj_http.specs.Calls.{InFront}
use Rattle.gj_http.specs.Cut.{NeedsMore, Cuts, empty_lines}
use Rattle.gj_http.specs.Request.{Request}
use Rattle.gj_http.specs.declared.message.Refused.{Refused}
use Rattle.gj_session.specs.Runs.{Exchange, messages_of}
use Rattle.gj_session.specs.Sessions.{any_closes, ClosesLast, Ends, Replayed, end_of_cut, IsByInput, IsAll, EndsByInput}
use Rattle.gj_base.specs.Streams.{Incoming, Outgoing}
use Rattle.gj_session.specs.declared.outcome.End.{End}
use Rattle.gj_session.specs.declared.outcome.End.TheVariants.{Finished, Closed, Truncated, Stopped, ReadFault, WriteFault, Turns}
use Rattle.gj_session.proofs.GoingLemmas.{FeedsOn}

-- the laws of cutting that decide the end
pub record Cutting : Type 0 where
  pub feed : FeedsOn
  pub cut : (bytes held rest : List ℕ) (messages later : List Request) (why : Option Refused)
      → InFront bytes messages held → Cuts held later why rest → Cuts bytes (messages ++ later) why rest
  pub begins : (bytes held rest : List ℕ) (messages all : List Request) (why : Option Refused)
      → InFront bytes messages held → Cuts bytes all why rest → (later : List Request) × (all ≡ messages ++ later)
  pub one : (bytes : List ℕ) (first second : List Request) (why cause : Option Refused) (rest others : List ℕ)
      → Cuts bytes first why rest → Cuts bytes second cause others → (first ≡ second) × (why ≡ cause) × (rest ≡ others)
  pub refusal : (bytes more : List ℕ) (first all : List Request) (why : Refused) (cause : Option Refused) (rest others : List ℕ)
      → Cuts bytes first (Some why) rest → Cuts (bytes ++ more) all cause others → (all ≡ first) × (cause ≡ Some why)

closes_of : (es : List Exchange) → list_any (λ (m : Request). m.close) (messages_of es) ≡ any_closes es
closes_of [] = refl
closes_of (e ∷ es) = ap (λ (t : Bool). e.message.close || t) (closes_of es)

or_true : (a b : Bool) → b ≡ true → (a || b) ≡ true
or_true true b e = refl
or_true false b e = e

true_or : (a b : Bool) → a ≡ true → (a || b) ≡ true
true_or true b e = refl
true_or false b e = cc

last_closes : (es : List Exchange) → ClosesLast es → any_closes es ≡ true
last_closes es c =
    let closes : any_closes (c.last ∷ []) ≡ true = true_or c.last.message.close false c.closes in
    ap any_closes c.parts ∙ list_any-append (λ (e : Exchange). e.message.close) c.done (c.last ∷ []) ∙ or_true (any_closes c.done) (any_closes (c.last ∷ [])) closes

same_end : (a b : Bool) (r q : Option Refused) (s t : Bool) → a ≡ b → r ≡ q → s ≡ t → end_of_cut a r s ≡ end_of_cut b q t
same_end a b r q s t e f g = λ i. end_of_cut (e i) (f i) (g i)

-- the input was cut like the bytes that were taken, which are all of it
whole_cut : Cutting → (es : List Exchange) (bytes left input held : List ℕ) (messages : List Request) (refusal : Option Refused) (rest : List ℕ)
    → InFront bytes (messages_of es) held → NeedsMore held → any_closes es ≡ false → input ≡ bytes ++ left → left ≡ [] → Cuts input messages refusal rest
    → end_of_cut false None (empty_lines held == length held) ≡ end_of_cut (list_any (λ (m : Request). m.close) messages) refusal (empty_lines rest == length rest)
whole_cut laws es bytes left input held messages refusal rest front more quiet e none cut =
    let all : input ≡ bytes = e ∙ ap (λ (w : List ℕ). bytes ++ w) none ∙ append-nil bytes in
    let mine = laws.cut bytes held held (messages_of es) [] None front (more, refl) in
    let same = laws.one bytes (messages_of es ++ []) messages None refusal held rest mine (subst (λ (b : List ℕ). Cuts b messages refusal rest) all cut) in
    let closes : false ≡ list_any (λ (m : Request). m.close) messages =
    sym quiet ∙ sym (closes_of es) ∙ ap (λ (ms : List Request). list_any (λ (m : Request). m.close) ms) (sym (append-nil (messages_of es)) ∙ same.0) in
    same_end _ _ _ _ _ _ closes same.1 (ap (λ (w : List ℕ). empty_lines w == length w) same.2)

by_cut : Cutting → (end : End) (a b : Outgoing) (es : List Exchange) (bytes left input held : List ℕ) (messages : List Request) (refusal : Option Refused) (rest : List ℕ)
    → IsByInput end → InFront bytes (messages_of es) held → Ends end a b es held → input ≡ bytes ++ left → IsAll end left → Cuts input messages refusal rest
    → end ≡ end_of_cut (list_any (λ (m : Request). m.close) messages) refusal (empty_lines rest == length rest)
by_cut laws Finished a b es bytes left input held messages refusal rest by front ends e none cut =
    let between : true ≡ (empty_lines held == length held) = sym (eq-eqb (empty_lines held) (length held) ends.1) in
    ap (end_of_cut false None) between ∙ whole_cut laws es bytes left input held messages refusal rest front ends.0.more ends.0.quiet e none cut
by_cut laws Truncated a b es bytes left input held messages refusal rest by front ends e none cut =
    let between : false ≡ (empty_lines held == length held) = sym (ne_eqb (empty_lines held) (length held) ends.1) in
    ap (end_of_cut false None) between ∙ whole_cut laws es bytes left input held messages refusal rest front ends.0.more ends.0.quiet e none cut
by_cut laws Closed a b es bytes left input held messages refusal rest by front ends e none cut =
    let longer = laws.feed bytes held left (messages_of es) front in
    let later = laws.begins (bytes ++ left) (held ++ left) rest (messages_of es) messages refusal longer (subst (λ (b : List ℕ). Cuts b messages refusal rest) e cut) in
    let closes : list_any (λ (m : Request). m.close) messages ≡ true =
    ap (λ (ms : List Request). list_any (λ (m : Request). m.close) ms) later.1 ∙ list_any-append (λ (m : Request). m.close) (messages_of es) later.0
    ∙ true_or _ _ (closes_of es ∙ last_closes es ends.0) in
    ap (λ (t : Bool). end_of_cut t refusal (empty_lines rest == length rest)) (sym closes)
by_cut laws (Stopped why) a b es bytes left input held messages refusal rest by front ends e none cut =
    let mine = laws.cut bytes held held (messages_of es) [] (Some why) front (ends.1.0, refl) in
    let stays = laws.refusal bytes left (messages_of es ++ []) messages why refusal held rest mine (subst (λ (b : List ℕ). Cuts b messages refusal rest) e cut) in
    let closes : false ≡ list_any (λ (m : Request). m.close) messages =
    sym ends.0 ∙ sym (closes_of es) ∙ ap (λ (ms : List Request). list_any (λ (m : Request). m.close) ms) (sym (append-nil (messages_of es)) ∙ sym stays.0) in
    λ i. end_of_cut (closes i) (sym stays.1 i) (empty_lines rest == length rest)
by_cut laws ReadFault a b es bytes left input held messages refusal rest by front ends e none cut = absurd by
by_cut laws WriteFault a b es bytes left input held messages refusal rest by front ends e none cut = absurd by
by_cut laws Turns a b es bytes left input held messages refusal rest by front ends e none cut = absurd by

-- the end is a function of the whole input
pub ends_by_input : Cutting → (ran : List Exchange → Type 0) (a b : Incoming) (c d : Outgoing) (turns : ℕ) (end : End)
    → Replayed ran a b c d turns end → IsTrue a.tells → IsByInput end → EndsByInput a.stream.left end
ends_by_input laws ran a b c d turns end x t by = λ messages refusal rest cut.
    by_cut laws end c d x.ended.exchanges x.bytes b.stream.left a.stream.left x.ended.rest messages refusal rest by x.ended.answered.front x.ended.ends (x.took.all t).left (x.all t) cut
