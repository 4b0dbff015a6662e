-- A new identifier at the end of the list, and in the slots.
use Rattle.std.proofs.Common.{◌≡◌, ℕ, ◌+◌, ◌<◌, List, [], ◌∷◌, ◌++◌, length, get_or, take, set, Some, None, arith, sym, refl, subst, ◌∙◌, ap, length-append}
use Rattle.std.proofs.lemmas.Grind.{take-set_at}
use Rattle.std.proofs.lemmas.List.{length-take-le}
use Rattle.std.proofs.Math.Seq.{get_or-append_seam}
use Rattle.gj_ids.specs.declared.table.Slot.{Slot}
use Rattle.gj_base.specs.Firsts.{place_of, HasNoRepeat}
use Rattle.gj_ids.specs.Slots.{first_slot_of, IsTable, IsFree, seated_in}
use Rattle.gj_base.proofs.FirstLemmas.{place_of-at}
use Rattle.gj_ids.proofs.Probing.{table_seated}

-- the list with one more, as the memory behind it shows it
pub ids_put : (ids : List ℕ) (len id : ℕ) → len < length ids → take (len + 1) (set ids len id) ≡ take len ids ++ id ∷ []
ids_put ids len id below = take-set_at ids len (len + 1) id refl below

pub table_put : (ids : List ℕ) (len id at : ℕ) (slots slots' : List Slot) (stamp stamp' shift shift' : ℕ) → len < length ids → IsTable slots stamp shift (take len ids) → place_of (take len ids) id ≡ None → IsFree slots stamp (first_slot_of shift id) at → slots' ≡ seated_in slots stamp at len → stamp' ≡ stamp → shift' ≡ shift → IsTable slots' stamp' shift' (take (len + 1) (set ids len id))
table_put ids len id at slots slots' stamp stamp' shift shift' below table none free slots_are stamp_is shift_is =
    let known = take len ids in
    let size : length known ≡ len = length-take-le len ids (omega arith) in
    let absent = λ (p : ℕ) (inside : p < length known) (here : get_or known p 0 ≡ id).
    let found = place_of-at known id p table.distinct inside here in absurd (cc (none, found))
    in
    let seated = table_seated slots stamp shift known id at table free absent in
    rw (slots_are, stamp_is, shift_is, ids_put ids len id below)
    (subst (λ (n : ℕ). IsTable (seated_in slots stamp at n) stamp shift (known ++ id ∷ [])) size seated)

pub place_put : (ids : List ℕ) (len id : ℕ) → len < length ids → HasNoRepeat (take (len + 1) (set ids len id)) → place_of (take (len + 1) (set ids len id)) id ≡ Some len
place_put ids len id below distinct =
    let known = take len ids in
    let size : length known ≡ len = length-take-le len ids (omega arith) in
    let is = ids_put ids len id below in
    let here : get_or (known ++ id ∷ []) len 0 ≡ id =
    ap (λ (n : ℕ). get_or (known ++ id ∷ []) n 0) (sym size) ∙ get_or-append_seam known id [] 0
    in
    rw is (place_of-at (known ++ id ∷ []) id len (subst HasNoRepeat is distinct) (omega (arith, size, length-append {A = ℕ})) here)
