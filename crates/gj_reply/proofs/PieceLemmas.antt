-- The last piece of a text.
use Rattle.std.proofs.Common.{◌≡◌, ℕ, List, ◌++◌, Result, Ok, Err, OnOk, ◌∙◌, append_assoc}

-- what is t2 where the last piece found memory is the target
pub ended : {T E : Type 0} (r : Result T E) (t1 t2 b target : List ℕ)
    → OnOk r (t2 ≡ t1 ++ b) → t1 ++ b ≡ target → OnOk r (t2 ≡ target)
ended (Ok v) t1 t2 b target e same = e ∙ same
ended (Err v) t1 t2 b target e same = e

-- five pieces, put one after the other, as one
pub regrouped : (o a b c d e : List ℕ) → ((((o ++ a) ++ b) ++ c) ++ d) ++ e ≡ o ++ (a ++ b ++ c ++ d ++ e)
regrouped o a b c d e = simp append_assoc

-- four pieces
pub regrouped_four : (o a b c d : List ℕ) → (((o ++ a) ++ b) ++ c) ++ d ≡ o ++ (a ++ b ++ c ++ d)
regrouped_four o a b c d = simp append_assoc

-- three members, two pieces and a last one
pub regrouped_nine : (o a b c d e f g h i : List ℕ)
    → (((((o ++ (a ++ b)) ++ (c ++ d)) ++ (e ++ f)) ++ g) ++ h) ++ i ≡ o ++ (a ++ b ++ c ++ d ++ e ++ f ++ g ++ h ++ i)
regrouped_nine o a b c d e f g h i = simp append_assoc

-- three pieces, a member and a last one
pub regrouped_item : (o a b c d e f : List ℕ)
    → ((((o ++ a) ++ b) ++ c) ++ (d ++ e)) ++ f ≡ o ++ (a ++ b ++ c ++ d ++ e ++ f)
regrouped_item o a b c d e f = simp append_assoc
