-- A list of seed users that grows by one.
use Rattle.std.proofs.Common.{◌≡◌, ℕ, Bool, true, false, eqb, List, [], ◌∷◌, ◌++◌, refl, sym, arith, true≢false}
use Rattle.std.specs.Prelude.{◌&&◌, ◌||◌, not, IsTrue}
use Rattle.std.proofs.lemmas.Bool.Decides.{nat_tests}
use Rattle.std.specs.List.{list_any}
use Rattle.gj_base.specs.Asks.{are_distinct}

neither : (a b : Bool) → (a || b) ≡ false → (a ≡ false) × (b ≡ false)
neither true b e = absurd (true≢false e)
neither false b e = (refl, e)

pub both : (a b : Bool) → (a && b) ≡ true → (a ≡ true) × (b ≡ true)
both true b e = (refl, e)
both false b e = absurd (true≢false (sym e))

pub not-true : (a : Bool) → not a ≡ true → a ≡ false
not-true true e = absurd (true≢false (sym e))
not-true false e = refl

list_any-push : (test : ℕ → Bool) (ids : List ℕ) (id : ℕ) → list_any test ids ≡ false → test id ≡ false → list_any test (ids ++ id ∷ []) ≡ false
list_any-push test [] id none here = rw here refl
list_any-push test (x ∷ ids) id none here =
    let apart = neither (test x) (list_any test ids) none in
    rw apart.0 (list_any-push test ids id apart.1 here)

turned : (a b : ℕ) → eqb a b ≡ false → eqb b a ≡ false
turned a b e = grind (arith, nat_tests)

-- an identifier that was not there
pub are_distinct-push : (ids : List ℕ) (id : ℕ) → list_any (λ other. eqb other id) ids ≡ false → IsTrue (are_distinct ids) → IsTrue (are_distinct (ids ++ id ∷ []))
are_distinct-push [] id none distinct = refl
are_distinct-push (x ∷ ids) id none distinct =
    let apart = neither (eqb x id) (list_any (λ other. eqb other id) ids) none in
    let parts = both (not (list_any (λ other. eqb other x) ids)) (are_distinct ids) distinct in
    let fresh = list_any-push (λ other. eqb other x) ids id (not-true _ parts.0) (turned x id apart.0) in
    rw fresh (are_distinct-push ids id apart.1 parts.1)
