-- Whether the ends of a vertex lead to another, end by end.
use Rattle.std.proofs.Common.{◌≡◌, ℕ, zero, suc, ◌∙◌, ◌-◌, ◌<◌, ◌≤◌, ◌++◌, ◌||◌, ◌&&◌, Bool, true, false, cond, nat_eq, List, [], ◌∷◌, length, take, filter, map, append_assoc, append-nil, length-append, ap, sym, refl, arith}
use Rattle.gj_base.specs.declared.item.Item.{Item}
use Rattle.gj_base.specs.declared.mask.Mask.{Mask}
use Rattle.gj_base.specs.declared.side.Side.TheVariants.{User, Post}
use Rattle.gj_base.specs.Ends.{ends, end_across, is_eligible, passes, leads_to}

-- a set with v put in
pub or_added : (more was b : Bool) → more ≡ cond b true was → more ≡ (was || b)
or_added more true true e = e
or_added more false true e = e
or_added more true false e = e
or_added more false false e = e

-- one more part of a test of a whole
pub or_more : (more was before front b whole : Bool) → more ≡ (was || b) → was ≡ (before || front) → whole ≡ (front || b) → more ≡ (before || whole)
or_more more was true front b whole e f g = rw f at e
or_more more was false front b whole e f g = rw f at e ∙ sym g

leads_case : (a b p : Bool) (x : Item) (ls rs : List Item) (user post : ℕ) → nat_eq x.user user ≡ a → nat_eq x.post post ≡ b
    → leads_to (map (end_across User) ls) post ≡ leads_to (map (end_across Post) rs) user
    → leads_to (map (end_across User) (cond (a && p) (x ∷ ls) ls)) post ≡ leads_to (map (end_across Post) (cond (b && p) (x ∷ rs) rs)) user
leads_case true true true x ls rs user post ea eb e = rw (ea, eb) refl
leads_case true false true x ls rs user post ea eb e = rw eb e
leads_case false true true x ls rs user post ea eb e = rw ea e
leads_case false false true x ls rs user post ea eb e = e
leads_case true true false x ls rs user post ea eb e = e
leads_case true false false x ls rs user post ea eb e = e
leads_case false true false x ls rs user post ea eb e = e
leads_case false false false x ls rs user post ea eb e = e

-- an interaction leads from either of its vertices to the other
pub leads_back : (items : List Item) (user post : ℕ) (mask : Mask) → leads_to (ends items User user mask) post ≡ leads_to (ends items Post post mask) user
unfolding ends
leads_back [] user post mask = refl
leads_back (x ∷ xs) user post mask =
    leads_case (nat_eq x.user user) (nat_eq x.post post) (passes mask x) x (filter (is_eligible User user mask) xs)
    (filter (is_eligible Post post mask) xs) user post refl refl (leads_back xs user post mask)

-- one more seed user of those that are looked at
pub picked_more : (most : ℕ) (explains : ℕ → Bool) (proof new all left rest : List ℕ) (seed : ℕ) (b : Bool) → length proof < most
    → left ≡ seed ∷ rest → b ≡ explains seed → new ≡ cond b (proof ++ seed ∷ []) proof
    → proof ++ take (most - length proof) (filter explains left) ≡ all → new ++ take (most - length new) (filter explains rest) ≡ all
picked_more most explains proof new all left rest seed true h l e n was =
    let one : most - length proof ≡ suc (most - length new) = rw n (simp length-append (omega arith)) in
    let found : new ++ take (most - length new) (filter explains rest) ≡ proof ++ seed ∷ take (most - length new) (filter explains rest) =
    ap (λ (front : List ℕ). front ++ take (most - length new) (filter explains rest)) n ∙ append_assoc proof (seed ∷ []) _ in
    found ∙ rw (l, ← e, one) at was
picked_more most explains proof new all left rest seed false h l e n was = rw n (rw (l, ← e) at was)

pub picked_full : (most : ℕ) (proof all left : List ℕ) → most ≤ length proof → proof ++ take (most - length proof) left ≡ all → proof ≡ all
picked_full most proof all left h was = let none : most - length proof ≡ 0 = omega arith in sym (append-nil proof) ∙ rw none at was

pub picked_all : (n : ℕ) (explains : ℕ → Bool) (proof all left : List ℕ) → left ≡ [] → proof ++ take n (filter explains left) ≡ all → proof ≡ all
picked_all zero explains proof all left l was = sym (append-nil proof) ∙ was
picked_all (suc n) explains proof all left l was = sym (append-nil proof) ∙ rw l at was
