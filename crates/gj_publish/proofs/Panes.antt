-- A copy that takes in a batch.
use Rattle.std.proofs.Common.{◌≡◌, ℕ, ◌+◌, ◌≤◌, List, length, sym, ap, ◌∙◌, subst, arith, length-append}
use Rattle.std.proofs.lemmas.List.{length-map}
use Rattle.gj_base.specs.declared.item.Item.{Item}
use Rattle.gj_base.specs.declared.history.History.{History}
use Rattle.gj_base.specs.declared.history.Shown.{Shown}
use Rattle.gj_base.specs.Configuration.{Configuration}
use Rattle.gj_base.specs.History.{IsWindow, StandsFor, conf_of, end_of, entries_by, extend, length_of, more}
use Rattle.gj_base.proofs.Windows.{stands_end, stands_more, more_conf}

-- there is room for the batch
pub room_for : (w : Shown) (f b a : History) (k : ℕ) (xs : List Item) (most : ℕ)
    → IsWindow w → StandsFor w f → f ≡ b → a ≡ extend b (entries_by k xs) → length_of a ≤ most → end_of w + length xs ≤ most
room_for w f b a k xs most is stands same adds fits =
    let ends : end_of w ≡ length_of f = stands_end w f is.configuration.segments_low stands in
    let count : length (entries_by k xs) ≡ length xs = length-map xs (λ (x : Item). record { item = x; by = k }) in
    omega (arith, ends, ap length_of same, ap length_of adds, length-append b.entries (entries_by k xs), count, fits)

-- the copy stands for the history with the batch
pub stands_behind : (w v : Shown) (f b a : History) (k : ℕ) (xs : List Item)
    → IsWindow w → StandsFor w f → f ≡ b → a ≡ extend b (entries_by k xs) → v ≡ more w xs → StandsFor v a
stands_behind w v f b a k xs is stands same adds shown =
    let low = is.configuration.capacity_low in
    let grown : StandsFor (more w xs) (extend f (entries_by k xs)) = stands_more w f k xs (omega arith) is.configuration.segments_low stands in
    let all : extend f (entries_by k xs) ≡ a = ap (λ h. extend h (entries_by k xs)) same ∙ sym adds in
    subst (λ (u : Shown). StandsFor u a) (sym shown) (subst (λ (h : History). StandsFor (more w xs) h) all grown)

pub conf_behind : (w v : Shown) (xs : List Item) (conf : Configuration) → conf_of w ≡ conf → v ≡ more w xs → conf_of v ≡ conf
conf_behind w v xs conf is shown = ap conf_of shown ∙ (more_conf w xs ∙ is)
