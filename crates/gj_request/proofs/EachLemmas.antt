-- A list's elements, one after another.
use Rattle.std.proofs.Common.{◌≡◌, ℕ, suc, ◌+◌, ◌<◌, List, ◌∷◌, length, drop, get_or, add-one, refl, ap, sym, subst, ◌∙◌, Result, Ok, Err}
use Rattle.std.proofs.Math.Seq.{drop-cons}
use Rattle.serde_json.specs.Data.{Data}
use Rattle.serde_json.specs.View.{view, items_view}
use Rattle.serde_json.specs.declared.value.Value.{Value}
use Rattle.gj_request.specs.Forms.{each}
use Rattle.gj_request.specs.Results.{◌>>=◌, Refuses, refusal_for}
use Rattle.gj_request.specs.declared.refusal.Reason.{Reason}
use Rattle.gj_request.specs.declared.refusal.Reason.TheVariants.{Json, Field, Range}
use Rattle.gj_request.specs.declared.refusal.Refusal.{Refusal}
use Rattle.gj_request.specs.declared.refusal.Refusal.TheVariants as refusals

-- a refusal of the first step is the answer
pub refuses-bind : {A B : Type 0} (r : Result A Reason) (f : A → Result B Reason) (why : Refusal) → Refuses r why → Refuses (r >>= f) why
refuses-bind r f refusals.Json e = rw e refl
refuses-bind r f (refusals.Field name) e = rw e refl
refuses-bind r f (refusals.Range name) e = rw e refl
refuses-bind r f refusals.Memory e = tt

-- a reason is refused by its own refusal
pub refuses_for : {A : Type 0} (given : Result A Reason) (why : Reason) → given ≡ Err why → Refuses given (refusal_for why)
refuses_for given Json e = e
refuses_for given (Field name) e = e
refuses_for given (Range name) e = e

-- an element, and then those after it
pub each_more : {A : Type 0} (add : A → Data → Result A Reason) (so_far : A) (vs : List Value) (k : ℕ) (v : Value) → k < length vs → v ≡ get_or vs k v
    → each add so_far (items_view (drop k vs)) ≡ (add so_far (view v) >>= λ more. each add more (items_view (drop (k + 1) vs)))
each_more add so_far vs k v h e =
    let cut : drop k vs ≡ v ∷ drop (k + 1) vs = rw add-one (drop-cons vs k v h ∙ ap (λ u. u ∷ drop (suc k) vs) (sym e)) in
    rw cut refl

-- an element that is taken
pub each-ok : {A : Type 0} (add : A → Data → Result A Reason) (so_far more : A) (all : Result A Reason) (vs : List Value) (k : ℕ) (v : Value) → k < length vs → v ≡ get_or vs k v
    → each add so_far (items_view (drop k vs)) ≡ all → add so_far (view v) ≡ Ok more → each add more (items_view (drop (k + 1) vs)) ≡ all
each-ok {A} add so_far more all vs k v h e to taken = sym (rw taken at (each_more {A = A} add so_far vs k v h e)) ∙ to

-- an element that is refused
pub each-refused : {A : Type 0} (add : A → Data → Result A Reason) (so_far : A) (all : Result A Reason) (vs : List Value) (k : ℕ) (v : Value) (why : Refusal) → k < length vs → v ≡ get_or vs k v
    → each add so_far (items_view (drop k vs)) ≡ all → Refuses (add so_far (view v)) why → Refuses all why
each-refused {A} add so_far all vs k v why h e to refused =
    let P : Result A Reason → Type 0 = λ r. Refuses r why in
    subst P (sym (each_more add so_far vs k v h e) ∙ to) (refuses-bind (add so_far (view v)) (λ more. each add more (items_view (drop (k + 1) vs))) why refused)
