-- The kind that a text names.
use Rattle.std.proofs.Common.{◌≡◌, ℕ, Bool, true, false, List, Option, Some, None, bytes_eq, refl, sym}
use Rattle.std.specs.Prelude.{IfSome, IfNone}
use Rattle.std.proofs.lemmas.Slice.Eq.{bytes_eq-Decides}
use Rattle.gj_base.specs.declared.kind.Kind.{Kind}
use Rattle.gj_base.specs.declared.kind.Kind.TheVariants.{Click, Favorite, Retweet, Reply, Tweet}
use Rattle.gj_base.specs.Kinds.{kind_name}
use Rattle.gj_follow.specs.Reading.{kind_named}

differ : (xs ys : List ℕ) (b : Bool) → bytes_eq xs ys ≡ b → (xs ≡ ys → ⊥) → b ≡ false
differ xs ys true e other = absurd (other ((bytes_eq-Decides xs ys).0 e))
differ xs ys false e other = refl

no_name : (text : List ℕ) (kind : Kind) → ((kind : Kind) → text ≡ kind_name kind → ⊥) → bytes_eq text (kind_name kind) ≡ false
no_name text kind never = differ text (kind_name kind) _ refl (never kind)

-- what no kind is called names none
pub kind_named-none : (text : List ℕ) → ((kind : Kind) → text ≡ kind_name kind → ⊥) → kind_named text ≡ None
kind_named-none text never =
    rw (no_name text Click never, no_name text Favorite never, no_name text Retweet never, no_name text Reply never, no_name text Tweet never) refl

-- a kind whose name is the text, or none where no kind's is
pub kind_named-is : (text : List ℕ) (found : Option Kind) → IfSome found (λ kind. text ≡ kind_name kind) → IfNone found ((kind : Kind) → text ≡ kind_name kind → ⊥) → found ≡ kind_named text
kind_named-is text None some none = sym (kind_named-none text none)
kind_named-is text (Some Click) some none = rw some refl
kind_named-is text (Some Favorite) some none = rw some refl
kind_named-is text (Some Retweet) some none = rw some refl
kind_named-is text (Some Reply) some none = rw some refl
kind_named-is text (Some Tweet) some none = rw some refl
