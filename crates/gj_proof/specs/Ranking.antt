-- Rankings of posts by their numbers.
use Rattle.std.specs.Prelude.{◌≡◌, ℕ, ◌==◌, ◌&&◌, ◌||◌, not, nat_lt, Bool, false, if◌then◌else◌, List, [], ◌∷◌, take, map, filter, fold}
use Rattle.std.specs.List.{list_any}
use Rattle.gj_base.specs.declared.item.Item.{Item}
use Rattle.gj_base.specs.declared.mask.Mask.{Mask}
use Rattle.gj_base.specs.declared.side.Side.TheVariants.{User}
use Rattle.gj_base.specs.Ends.{ends, leads_to}
use Rattle.gj_base.specs.Kinds.{all_kinds}
use Rattle.gj_proof.specs.declared.ranked.Ranked.{Ranked}
use Rattle.gj_proof.specs.Proofs.{first_users, proof_of}

-- a pair of a post and its number comes before another: its number is larger, or its post is lower at the same number
abbrev pub comes_before : ℕ × ℕ → ℕ × ℕ → Bool
comes_before a b = nat_lt b.1 a.1 || ((a.1 == b.1) && nat_lt a.0 b.0)

-- the pairs with one more, behind those that come before it
unfoldable pub placed : List (ℕ × ℕ) → ℕ × ℕ → List (ℕ × ℕ)
placed [] pair = pair ∷ []
placed (first ∷ rest) pair = if comes_before first pair then first ∷ placed rest pair else pair ∷ first ∷ rest

-- the pairs by rank: each is placed among those before it
abbrev pub by_rank : List (ℕ × ℕ) → List (ℕ × ℕ)
by_rank pairs = fold placed [] pairs

-- none of the pairs comes before this one
unfoldable pub NoneBefore : ℕ × ℕ → List (ℕ × ℕ) → Type 0
NoneBefore pair [] = Unit {0}
NoneBefore pair (other ∷ rest) = (comes_before other pair ≡ false) × NoneBefore pair rest

-- no pair comes before an earlier one
unfoldable pub AreByRank : List (ℕ × ℕ) → Type 0
AreByRank [] = Unit {0}
AreByRank (first ∷ rest) = NoneBefore first rest × AreByRank rest

-- a seed has an eligible interaction with the post
unfoldable pub meets : List Item → List ℕ → Mask → ℕ → Bool
meets items seeds mask post = list_any (λ seed. leads_to (ends items User seed mask) post) seeds

-- a seed has an interaction of any kind with the post
unfoldable pub is_known : List Item → List ℕ → ℕ → Bool
is_known items seeds post = meets items seeds all_kinds post

-- a pair may be shown: nothing is hidden, or no seed knows its post
abbrev pub is_shown : List Item → List ℕ → Bool → ℕ × ℕ → Bool
is_shown items seeds hide pair = not (hide && is_known items seeds pair.0)

-- the pair in a ranking, with an empty proof
abbrev pub unexplained : ℕ × ℕ → Ranked
unexplained pair = record { id = pair.0; number = pair.1; proof = [] }

-- the first of the pairs by rank, without those that are hidden
unfoldable pub ranked_of : List Item → List ℕ → List (ℕ × ℕ) → Bool → ℕ → List Ranked
ranked_of items seeds pairs hide top = map unexplained (take top (by_rank (filter (is_shown items seeds hide) pairs)))

-- the ranked post, with the first of the users that explain it
abbrev pub explained_by : List Item → List ℕ → Mask → ℕ → Ranked → Ranked
explained_by items users mask most r = record { id = r.id; number = r.number; proof = first_users items users r.id mask most }

-- the same ranking, each post with its proof
unfoldable pub explained_of : List Item → List ℕ → List Ranked → Mask → ℕ → List Ranked
explained_of items seeds ranking mask most =
    map (λ r. record { id = r.id; number = r.number; proof = proof_of items seeds r.id mask most }) ranking
