-- Vertices that have places among identifiers stand there, and the others do not.
use Rattle.std.proofs.Common.{◌≡◌, ◌≢◌, ℕ, suc, ◌<◌, ◌∙◌, ◌++◌, Bool, false, cond, List, [], ◌∷◌, length, get_or, is_some, ap, sym, refl, arith, inl, inr}
use Rattle.std.proofs.lemmas.Bool.{ne_eqb}
use Rattle.gj_base.specs.Firsts.{place_of, with_id, HasNoRepeat}
use Rattle.gj_base.proofs.FirstLemmas.{place_of-Some, place_of-at, cases_place_of}
use Rattle.gj_base.specs.Edges.{stands_in}
use Rattle.gj_subgraph.specs.Masses.{with_vertex}
use Rattle.gj_subgraph.proofs.NumberLemmas.{stands_at}

stands_nowhere : (ids : List ℕ) (v : ℕ) → ((p : ℕ) → p < length ids → get_or ids p 0 ≢ v) → stands_in ids v ≡ false
stands_nowhere [] v absent = refl
stands_nowhere (x ∷ xs) v absent =
    let rest = stands_nowhere xs v (λ p below. absent (suc p) (omega arith)) in
    rw (ne_eqb x v (absent 0 (omega arith)), rest) refl

pub place_stands : (ids : List ℕ) (v : ℕ) → HasNoRepeat ids → is_some (place_of ids v) ≡ stands_in ids v
place_stands ids v distinct = elim (cases_place_of ids v) [
  | inl found ↦ (let at = place_of-Some ids v found.0 found.1 in ap is_some found.1 ∙ sym (stands_at ids found.0 v at.0 at.1))
  | inr none ↦ ap is_some none
      ∙ sym (stands_nowhere ids v (λ p below. λ (here : get_or ids p 0 ≡ v). (let found = place_of-at ids v p distinct below here in absurd (cc (none, found)))))
]

-- both say that a new one goes last
pub with_same : (ids : List ℕ) (v : ℕ) → HasNoRepeat ids → with_id ids v ≡ with_vertex ids v
with_same ids v distinct = ap (λ (b : Bool). cond b ids (ids ++ v ∷ [])) (place_stands ids v distinct)
