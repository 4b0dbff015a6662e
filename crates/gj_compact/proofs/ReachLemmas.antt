-- Whether one of the ends passes a test, end by end.
use Rattle.std.proofs.Common.{◌≡◌, Bool, true, false, List, ◌∷◌, refl}
use Rattle.std.specs.List.{list_any}

pub any_here : {X : Type 0} (test : X → Bool) (x : X) (xs rest : List X) → xs ≡ x ∷ rest → test x ≡ true → list_any test xs ≡ true
any_here test x xs rest are is = rw (are, is) refl

pub any_later : {X : Type 0} (test : X → Bool) (x : X) (xs rest : List X) → xs ≡ x ∷ rest → test x ≡ false → list_any test xs ≡ list_any test rest
any_later test x xs rest are is = rw (are, is) refl
