-- The pieces of a head, as its lines.
use Rattle.std.proofs.Common.{◌≡◌, ℕ, List, ◌++◌, Result, Ok, Err, OnOk, ◌∙◌, append_assoc}

-- what is t2 where the last piece found memory is the target
pub ended : {T E : Type 0} (r : Result T E) (t1 t2 b target : List ℕ)
    → OnOk r (t2 ≡ t1 ++ b) → t1 ++ b ≡ target → OnOk r (t2 ≡ target)
ended (Ok v) t1 t2 b target e same = e ∙ same
ended (Err v) t1 t2 b target e same = e

-- four pieces, whose last two have lines of their own, as one
pub regrouped : (o first size end name connection allow : List ℕ)
    → ((o ++ first) ++ size) ++ (end ++ name ++ connection ++ end) ++ (allow ++ end)
    ≡ o ++ (first ++ size ++ end ++ name ++ connection ++ end ++ allow ++ end)
regrouped o first size end name connection allow = simp append_assoc
