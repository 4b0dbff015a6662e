-- What the post of a numbered batch answers.
use Rattle.std.specs.Prelude.{◌≡◌, ℕ, Result, Ok, Err}
use Rattle.gj_base.specs.Causes.{faults_posted}
use Rattle.gj_base.specs.declared.item.Receipt.{Receipt}
use Rattle.gj_once.specs.declared.noted_index.Noted.{Noted}
use Rattle.gj_once.specs.declared.noted_index.Noted.TheVariants.{New, Repeated}
use Rattle.gj_once.specs.declared.noted_index.OnceError.{OnceError}
use Rattle.gj_once.specs.declared.noted_index.OnceError.TheVariants as refused
use Rattle.gj_once.specs.declared.verdict.Verdict.{Verdict}
use Rattle.gj_once.specs.declared.verdict.Verdict.TheVariants as verdict

-- P of the places, if the batch entered the history at this call
abbrev pub IfNew : Result Noted OnceError → (Receipt → Type 0) → Type 0
IfNew (Ok (New receipt)) P = P receipt
IfNew (Ok (Repeated receipt)) P = Unit {0}
IfNew (Err why) P = Unit {0}

-- P, if the batch entered the history at this call
abbrev pub OnNew : Result Noted OnceError → Type 0 → Type 0
OnNew result P = IfNew result (λ _. P)

-- P, if it did not
abbrev pub OnOther : Result Noted OnceError → Type 0 → Type 0
OnOther (Ok (New receipt)) P = Unit {0}
OnOther (Ok (Repeated receipt)) P = P
OnOther (Err why) P = P

-- it entered, or the index refused it
abbrev pub IsPosted : Result Noted OnceError → Type 0
IsPosted (Ok (New receipt)) = Unit {0}
IsPosted (Ok (Repeated receipt)) = ⊥
IsPosted (Err (refused.Index why)) = Unit {0}
IsPosted (Err (refused.Old last)) = ⊥
IsPosted (Err (refused.Skipped last)) = ⊥

-- the answer is one to this verdict
abbrev pub Answers : Verdict → Result Noted OnceError → Type 0
Answers verdict.Fresh result = IsPosted result
Answers (verdict.Repeat receipt) result = result ≡ Ok (Repeated receipt)
Answers (verdict.Old last) result = result ≡ Err (refused.Old last)
Answers (verdict.Skipped last) result = result ≡ Err (refused.Skipped last)

-- the count of an index after the answer: one more where a call of its store failed
abbrev pub faults_noted : ℕ → Result Noted OnceError → ℕ
faults_noted count (Ok noted) = count
faults_noted count (Err (refused.Index why)) = let answer : Result Noted _ = Err why in faults_posted count answer
faults_noted count (Err (refused.Old last)) = count
faults_noted count (Err (refused.Skipped last)) = count
