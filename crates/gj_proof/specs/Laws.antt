-- What a ranking is, in the subject's own words.
use Rattle.std.specs.Prelude.{◌≡◌, ℕ, Bool, false, IsTrue, List, map, filter, min, length, All, AllPairs, Contains}
use Rattle.gj_base.specs.declared.item.Item.{Item}
use Rattle.gj_base.specs.Asks.{are_distinct}
use Rattle.gj_proof.specs.declared.ranked.Ranked.{Ranked}
use Rattle.gj_proof.specs.Ranking.{comes_before, is_shown}

-- a ranked post with its number
abbrev pub pair_of : Ranked → ℕ × ℕ
pair_of r = (r.id, r.number)

-- the posts of pairs
abbrev pub posts_of : List (ℕ × ℕ) → List ℕ
posts_of pairs = map (λ p. p.0) pairs

-- a ranking of the pairs that may be shown: in order, no post twice, as many as there are up to top, and none that was
-- left out comes before one that is in
pub record IsRanking (items : List Item) (seeds : List ℕ) (pairs : List (ℕ × ℕ)) (hide : Bool) (top : ℕ) (ranking : List (ℕ × ℕ)) : Type 0 where
  pub ordered : AllPairs (λ a b. IsTrue (comes_before a b)) ranking
  pub distinct : IsTrue (are_distinct (posts_of ranking))
  pub among : All (λ pair. Contains pairs pair × IsTrue (is_shown items seeds hide pair)) ranking
  pub many : length ranking ≡ min top (length (filter (is_shown items seeds hide) pairs))
  pub best : (out kept : ℕ × ℕ) → Contains pairs out → IsTrue (is_shown items seeds hide out) → (Contains ranking out → ⊥)
      → Contains ranking kept → comes_before out kept ≡ false
