-- The history that an opening begins with, where the keeper tells its rows.
use Rattle.std.proofs.Common.{◌≡◌, Bool, true, false, refl, subst, Some, None}
use Rattle.std.specs.Prelude.{IfSome, if◌then◌else◌}
use Rattle.gj_base.specs.declared.history.History.{History}
use Rattle.gj_base.specs.History.{Begins, empty_history}
use Rattle.gj_base.specs.Kept.{Kept}
use Rattle.gj_keep.specs.Books.{told_rows}
use Rattle.gj_keep.specs.Openings.{opening_of}
use Rattle.gj_keep.specs.Rows.{opened}

by_law : (bare tells : Bool) → (bare ≡ true → tells ≡ false) → tells ≡ true → bare ≡ false
by_law true tells untold is = absurd (cc (untold refl))
by_law false tells untold is = refl

-- what tells its rows is not bare
pub told_not_bare : (kept : Kept) → (kept.bare ≡ true → kept.tells ≡ false) → kept.tells ≡ true → kept.bare ≡ false
told_not_bare kept untold is = by_law kept.bare kept.tells untold is

pub opening_told : (kept : Kept) (h : History) → kept.tells ≡ true → kept.bare ≡ false → IfSome (opening_of kept) (λ o. Begins o h) → Begins (opened (told_rows kept)) h
opening_told kept h tells bare is =
    let P : Bool × Bool → Type 0 = λ z. IfSome (if z.0 then Some (empty_history 0) else (if z.1 then Some (opened (told_rows kept)) else None)) (λ o. Begins o h) in
    let there : P (false, true) = subst P (λ i. (bare i, tells i)) is in
    there
