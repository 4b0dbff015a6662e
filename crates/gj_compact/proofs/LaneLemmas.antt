-- What a change of one row changes of the lane.
use Rattle.std.proofs.Common.{◌≡◌, ◌≢◌, ℕ, zero, suc, ◌+◌, ◌-◌, ◌<◌, ◌≤◌, ◌∙◌, List, [], ◌∷◌, ◌++◌, length, map, take, drop, set, get_or, replicate, refl, arith, sym, ap, inl, inr}
use Rattle.std.proofs.lemmas.Bool.{cases_eq, cases_lt}
use Rattle.std.proofs.lemmas.List.{length-map, length-set, length-take, length-drop, get_or-map, get_or-set_same, get_or-set_other, map-set, set-get_or, ext_get_or, drop-take, drop-drop, drop-set-lt, drop-set-add, take-set-le, take_more_set, get_or_default}
use Rattle.gj_compact.specs.declared.lane.Row.{Row}
use Rattle.gj_compact.specs.declared.edge.End.{End}
use Rattle.gj_compact.specs.Lanes.{AreLaid, row_run, row_end, laned, run_of, pushed, popped, noted}

-- a row that shows the same as the one that it replaces
same_at : {X Y : Type 0} (f : X → Y) (xs : List X) (i : ℕ) (x new : X) (d : Y) → i < length xs → x ≡ get_or xs i x → f new ≡ f x → map f (set xs i new) ≡ map f xs
same_at f xs i x new d below is same =
    map-set f xs i new ∙ (ap (set (map f xs) i) (same ∙ (ap f is ∙ sym (get_or-map f xs i x d below))) ∙ set-get_or (map f xs) i d)

pub lane_noted : (rows : List Row) (cells : List End) (room v : ℕ) (row : Row) → v < length rows → row ≡ get_or rows v row
    → laned (set rows v (record { start = row.start; len = row.len; spare = row.spare; fresh = row.fresh + 1 })) cells room ≡ noted (laned rows cells room) v
lane_noted rows cells room v row below is =
    let new : Row = record { start = row.start; len = row.len; spare = row.spare; fresh = row.fresh + 1 } in
    let a = same_at (row_run cells) rows v row new [] below is refl in
    let b = same_at (λ (r : Row). r.spare) rows v row new 0 below is refl in
    let here : row.fresh ≡ get_or (map (λ (r : Row). r.fresh) rows) v 0 = ap (λ (r : Row). r.fresh) is ∙ sym (get_or-map (λ (r : Row). r.fresh) rows v row 0 below) in
    let c : map (λ (r : Row). r.fresh) (set rows v new) ≡ set (map (λ (r : Row). r.fresh) rows) v (get_or (map (λ (r : Row). r.fresh) rows) v 0 + 1) =
    map-set (λ (r : Row). r.fresh) rows v new ∙ ap (λ (n : ℕ). set (map (λ (r : Row). r.fresh) rows) v (n + 1)) here in
    rw (a, b, c) refl

run_pop : (cells : List End) (start len : ℕ) → 0 < len → take (len - 1) (drop (start + 1) cells) ≡ drop 1 (take len (drop start cells))
run_pop cells start len any =
    let e : len ≡ 1 + (len - 1) = omega arith in
    sym (ap (λ (n : ℕ). drop 1 (take n (drop start cells))) e ∙ (drop-take 1 (len - 1) (drop start cells) ∙ ap (take (len - 1)) (drop-drop 1 start cells)))

pub lane_popped : (rows : List Row) (cells : List End) (room v : ℕ) (row : Row) → v < length rows → row ≡ get_or rows v row
    → 0 < length (run_of (laned rows cells room).runs v)
    → laned (set rows v (record { start = row.start + 1; len = row.len - 1; spare = row.spare; fresh = row.fresh })) cells room ≡ popped (laned rows cells room) v
lane_popped rows cells room v row below is any =
    let new : Row = record { start = row.start + 1; len = row.len - 1; spare = row.spare; fresh = row.fresh } in
    let here : row_run cells row ≡ get_or (map (row_run cells) rows) v [] = ap (row_run cells) is ∙ sym (get_or-map (row_run cells) rows v row [] below) in
    let some : 0 < row.len = omega (arith, any, ap length here, length-take row.len (drop row.start cells)) in
    let a : map (row_run cells) (set rows v new) ≡ set (map (row_run cells) rows) v (drop 1 (get_or (map (row_run cells) rows) v [])) =
    map-set (row_run cells) rows v new ∙ ap (set (map (row_run cells) rows) v) (run_pop cells row.start row.len some ∙ ap (drop 1) here) in
    let b = same_at (λ (r : Row). r.spare) rows v row new 0 below is refl in
    let c = same_at (λ (r : Row). r.fresh) rows v row new 0 below is refl in
    rw (a, b, c) refl

-- a cell beyond a run leaves it
run_other : (cells : List End) (start len p : ℕ) (end : End) → (p < start → ⊥) → start + len ≤ p → take len (drop start (set cells p end)) ≡ take len (drop start cells)
run_other cells start len p end not past =
    let e : p ≡ start + (p - start) = omega arith in
    ap (λ (n : ℕ). take len (drop start (set cells n end))) e
    ∙ (ap (take len) (drop-set-add start cells (p - start) end) ∙ take-set-le len (drop start cells) (p - start) end (omega arith))

run_before : (cells : List End) (start len p : ℕ) (end : End) → p < start → take len (drop start (set cells p end)) ≡ take len (drop start cells)
run_before cells start len p end before = ap (take len) (drop-set-lt start cells p end before)

run_more : (cells : List End) (start len : ℕ) (end : End) → start + len < length cells
    → take (len + 1) (drop start (set cells (start + len) end)) ≡ take len (drop start cells) ++ end ∷ []
run_more cells start len end below =
    ap (take (len + 1)) (drop-set-add start cells len end) ∙ take_more_set (drop start cells) len end (omega (arith, below, length-drop start cells))

pub lane_pushed : (rows : List Row) (cells : List End) (room v : ℕ) (row : Row) (end : End) → v < length rows → row ≡ get_or rows v row → AreLaid rows (length cells)
    → 0 < get_or (laned rows cells room).spare v 0
    → laned (set rows v (record { start = row.start; len = row.len + 1; spare = row.spare - 1; fresh = row.fresh })) (set cells (row.start + row.len) end) room
    ≡ pushed (laned rows cells room) v end
lane_pushed rows cells room v row end below is laid spare =
    let new : Row = record { start = row.start; len = row.len + 1; spare = row.spare - 1; fresh = row.fresh } in
    let p : ℕ = row.start + row.len in
    let cells' : List End = set cells p end in
    let here : row.spare ≡ get_or (map (λ (r : Row). r.spare) rows) v 0 = ap (λ (r : Row). r.spare) is ∙ sym (get_or-map (λ (r : Row). r.spare) rows v row 0 below) in
    let some : 0 < row.spare = omega (arith, spare, here) in
    let ends : row_end row ≤ length cells = omega (arith, laid.within v row below, ap row_end is) in
    let run : row_run cells row ≡ get_or (map (row_run cells) rows) v [] = ap (row_run cells) is ∙ sym (get_or-map (row_run cells) rows v row [] below) in
    let more : row_run cells' new ≡ get_or (map (row_run cells) rows) v [] ++ end ∷ [] =
    run_more cells row.start row.len end (omega (arith, ends, some)) ∙ ap (λ (l : List End). l ++ end ∷ []) run in
    let long : length (map (row_run cells') (set rows v new)) ≡ length rows = length-map (set rows v new) (row_run cells') ∙ length-set rows v new in
    let a : map (row_run cells') (set rows v new) ≡ set (map (row_run cells) rows) v (get_or (map (row_run cells) rows) v [] ++ end ∷ []) =
    ext_get_or [] _ _ (long ∙ sym (length-set (map (row_run cells) rows) v _ ∙ length-map rows (row_run cells)))
    (λ w h.
    let lt : w < length rows = omega (arith, h, long) in
    let lt' : w < length (set rows v new) = omega (arith, lt, length-set rows v new) in
    let lt'' : w < length (map (row_run cells) rows) = omega (arith, lt, length-map rows (row_run cells)) in
    get_or-map (row_run cells') (set rows v new) w row [] lt' ∙ elim (cases_eq w v) [
      | inl e ↦ rw e (ap (row_run cells') (get_or-set_same rows v new row below) ∙ (more ∙ sym (get_or-set_same (map (row_run cells) rows) v _ [] (omega (arith, e, lt'')))))
      | inr ne ↦
          ap (row_run cells') (get_or-set_other rows v w new row ne)
          ∙ (elim (cases_lt v w) [
            | inl vw ↦
                let apart : row_end row ≤ (get_or rows w row).start = omega (arith, laid.apart v w row vw lt, ap row_end is) in
                run_before cells (get_or rows w row).start (get_or rows w row).len p end (omega (arith, apart, some))
            | inr wv ↦
                let less : w < v = omega (arith, wv, ne) in
                let apart : row_end (get_or rows w row) ≤ row.start = omega (arith, laid.apart w v row less below, ap (λ (r : Row). r.start) is) in
                run_other cells (get_or rows w row).start (get_or rows w row).len p end (λ (q : p < (get_or rows w row).start). omega (arith, apart, q)) (omega (arith, apart))
          ] ∙ (sym (get_or-map (row_run cells) rows w row [] lt) ∙ sym (get_or-set_other (map (row_run cells) rows) v w _ [] ne)))
    ])
    in
    let b : map (λ (r : Row). r.spare) (set rows v new) ≡ set (map (λ (r : Row). r.spare) rows) v (get_or (map (λ (r : Row). r.spare) rows) v 0 - 1) =
    map-set (λ (r : Row). r.spare) rows v new ∙ ap (λ (n : ℕ). set (map (λ (r : Row). r.spare) rows) v (n - 1)) here in
    let c = same_at (λ (r : Row). r.fresh) rows v row new 0 below is refl in
    rw (a, b, c) refl

pub map-replicate : {X Y : Type 0} (f : X → Y) (x : X) (n : ℕ) → map f (replicate n x) ≡ replicate n (f x)
map-replicate f x zero = refl
map-replicate f x (suc n) = let rest = map-replicate f x n in rw rest refl

-- a row in the place of another, and within it
pub laid_set : (rows : List Row) (size v : ℕ) (row new : Row) → AreLaid rows size → v < length rows → row ≡ get_or rows v row → row.start ≤ new.start → row_end new ≤ row_end row
    → AreLaid (set rows v new) size
laid_set rows size v row new laid below is starts ends =
    let long : length (set rows v new) ≡ length rows = length-set rows v new in
    let same : (d : Row) → get_or rows v d ≡ row = λ d. get_or_default rows v d row below ∙ sym is in
    let at_v : (w : ℕ) (d : Row) → w ≡ v → get_or (set rows v new) w d ≡ new = λ w d e. ap (λ (n : ℕ). get_or (set rows v new) n d) e ∙ get_or-set_same rows v new d below in
    record {
      within = λ w d h. elim (cases_eq w v) [
        | inl e ↦ omega (arith, ap row_end (at_v w d e), ends, laid.within v d below, ap row_end (same d))
        | inr ne ↦ omega (arith, ap row_end (get_or-set_other rows v w new d ne), laid.within w d (omega (arith, h, long)))
      ];
      apart = λ u w d a h.
          let in_rows : w < length rows = omega (arith, h, long) in
          elim (cases_eq u v) [
            | inl e ↦
                let ne : w ≢ v = omega arith in
                omega (arith, ap row_end (at_v u d e), ap (λ (r : Row). r.start) (get_or-set_other rows v w new d ne), ends, laid.apart v w d (omega (arith, a, e)) in_rows, ap row_end (same d))
            | inr ne ↦ elim (cases_eq w v) [
              | inl q ↦
                  omega (arith, ap row_end (get_or-set_other rows v u new d ne), ap (λ (r : Row). r.start) (at_v w d q), starts, laid.apart u v d (omega (arith, a, q)) below, ap (λ (r : Row). r.start) (same d))
              | inr nq ↦
                  omega (arith, ap row_end (get_or-set_other rows v u new d ne), ap (λ (r : Row). r.start) (get_or-set_other rows v w new d nq), laid.apart u w d a in_rows)
            ]
          ];
    }

pub run_long : (cells : List End) (row : Row) → length (row_run cells row) ≤ row.len
run_long cells row = omega (arith, length-take row.len (drop row.start cells))
