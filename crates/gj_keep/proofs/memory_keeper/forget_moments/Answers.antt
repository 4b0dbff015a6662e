use Rattle.std.proofs.Common.{◌≡◌, ℕ, suc, ◌+◌, ◌<◌, List, [], ◌∷◌, ◌++◌, length, map, take, drop, get_or, sym, ap, ◌∙◌, arith, length-take}
use Rattle.std.proofs.Math.ListN.{set}
use Rattle.std.proofs.Math.Seq.{drop-cons, set-append_seam, get_or-append_seam}
use Rattle.std.proofs.lemmas.List.{take_more, map-append, length-map, append_assoc}
use Rattle.gj_base.specs.declared.keeper.KeptItem.{KeptItem}
use Rattle.gj_base.specs.Kept.{without_moment}
use Rattle.gj_keep.proofs.memory_keeper.forget_moments.Goals as goal

abbrev no_row : KeptItem
no_row = record { place = 0; user = 0; post = 0; kind = 0; moment = 0 }

-- the row at i is the next to lose its moment
forgotten : (old rows : List KeptItem) (i : ℕ) → i < length old → rows ≡ map without_moment (take i old) ++ drop i old
    → set rows i (without_moment (get_or rows i no_row)) ≡ map without_moment (take (i + 1) old) ++ drop (i + 1) old
forgotten old rows i low is =
    let xs : List KeptItem = map without_moment (take i old) in
    let y : KeptItem = get_or old i no_row in
    let ys : List KeptItem = drop (i + 1) old in
    let next : drop i old ≡ y ∷ ys = drop-cons old i no_row low ∙ ap (λ (n : ℕ). y ∷ drop n old) (let e : suc i ≡ i + 1 = omega arith in e) in
    let all : rows ≡ xs ++ y ∷ ys = is ∙ ap (λ (rs : List KeptItem). xs ++ rs) next in
    let at : i ≡ length xs = omega (arith, length-map (take i old) without_moment, length-take i old) in
    let here : get_or rows i no_row ≡ y = (λ j. get_or (all j) (at j) no_row) ∙ get_or-append_seam xs y ys no_row in
    let put : set rows i (without_moment (get_or rows i no_row)) ≡ set (xs ++ y ∷ ys) (length xs) (without_moment y) = (λ j. set (all j) (at j) (without_moment (here j))) in
    let taken : map without_moment (take (i + 1) old) ≡ xs ++ without_moment y ∷ [] =
    ap (map without_moment) (take_more old i no_row low) ∙ map-append without_moment (take i old) (y ∷ []) in
    put ∙ (set-append_seam xs y ys (without_moment y) ∙ (sym (append_assoc xs (without_moment y ∷ []) ys) ∙ ap (λ (rs : List KeptItem). rs ++ ys) (sym taken)))

pub loop-row-preserved : goal.loop-row-preserved
loop-row-preserved c = forgotten c.args.rows.now c.loop-row.rows c.loop-row.row-index c.loop-row-test.true c.loop-row.invariant
