-- Steps that may be refused, one after another. Own.
use Rattle.std.specs.Prelude.{◌≡◌, Bool, true, false, Option, Some, None, Result, Ok, Err}
use Rattle.gj_request.specs.declared.name.Name.{Name}
use Rattle.gj_request.specs.declared.refusal.Reason.{Reason}
use Rattle.gj_request.specs.declared.refusal.Reason.TheVariants.{Json, Field, Range}
use Rattle.gj_request.specs.declared.refusal.Refusal.{Refusal}
use Rattle.gj_request.specs.declared.refusal.Refusal.TheVariants as refusals

-- the first step, and then the second over its value; the first reason is the answer
infixl 10 ◌>>=◌
abbrev pub ◌>>=◌ : {A B : Type 0} → Result A Reason → (A → Result B Reason) → Result B Reason
(Ok x) >>= f = f x
(Err why) >>= f = Err why

-- the value, where it has the right form
abbrev pub formed : {A : Type 0} → Name → Option A → Result A Reason
formed name None = Err (Field name)
formed name (Some x) = Ok x

-- the value, where it is in range
abbrev pub ranged : {A : Type 0} → Name → Bool → A → Result A Reason
ranged name false x = Err (Range name)
ranged name true x = Ok x

-- the refusal for this reason
abbrev pub refusal_for : Reason → Refusal
refusal_for Json = refusals.Json
refusal_for (Field name) = refusals.Field name
refusal_for (Range name) = refusals.Range name

-- the refusal is for the reason that was to come; want of memory may come in place of any answer
abbrev pub Refuses : {A : Type 0} → Result A Reason → Refusal → Type 0
Refuses given refusals.Json = given ≡ Err Json
Refuses given (refusals.Field name) = given ≡ Err (Field name)
Refuses given (refusals.Range name) = given ≡ Err (Range name)
Refuses given refusals.Memory = Unit {0}

-- the answer is the one that was to come, or want of memory
abbrev pub Gives : {A : Type 0} → Result A Reason → Result A Refusal → Type 0
Gives given (Ok x) = given ≡ Ok x
Gives given (Err why) = Refuses given why
