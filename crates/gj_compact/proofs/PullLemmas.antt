-- Runs moved to the front in one array.
use Rattle.std.proofs.Common.{◌≡◌, ℕ, zero, suc, ◌+◌, ◌-◌, ◌<◌, ◌≤◌, ◌∙◌, List, [], ◌∷◌, length, map, take, drop, set, get_or, min, refl, arith, sym, ap, inl, inr}
use Rattle.std.specs.List.{sum_by}
use Rattle.std.proofs.lemmas.Bool.{cases_eq}
use Rattle.std.proofs.lemmas.List.{length-map, length-set, get_or-map, get_or-set_same, get_or-set_other, ext_get_or, drop-take, take-take, drop-drop, get_or_default}
use Rattle.std.proofs.lemmas.List.Sums.{sum_by_more, sum_by_more_le, sum_by-cons}
use Rattle.gj_compact.specs.declared.lane.Row.{Row}
use Rattle.gj_compact.specs.declared.edge.End.{End}
use Rattle.gj_compact.specs.Lanes.{AreLaid, row_run, row_end, want_of}
use Rattle.gj_compact.specs.Moves.{AreReady, IsKept}

-- what lies before a place is read from there
pub run_within : (xs : List End) (start len to : ℕ) → start + len ≤ to → take len (drop start xs) ≡ take len (drop start (take to xs))
run_within xs start len to fits =
    let e : to ≡ start + (to - start) = omega arith in
    sym (ap (λ (n : ℕ). take len (drop start (take n xs))) e ∙ (ap (take len) (drop-take start (to - start) xs) ∙ take-take len (to - start) (drop start xs) (omega arith)))

pub run_kept : (xs ys : List End) (start len to : ℕ) → start + len ≤ to → take to xs ≡ take to ys → take len (drop start xs) ≡ take len (drop start ys)
run_kept xs ys start len to fits same =
    run_within xs start len to fits ∙ (ap (λ (l : List End). take len (drop start l)) same ∙ sym (run_within ys start len to fits))

drop_at : (xs : List End) (from at : ℕ) → from ≤ at → drop (at - from) (drop from xs) ≡ drop at xs
drop_at xs from at fits =
    let e : from + (at - from) ≡ at = omega arith in
    drop-drop (at - from) from xs ∙ ap (λ (n : ℕ). drop n xs) e

-- so is what lies from a place on
pub rest_kept : (xs ys : List End) (from at : ℕ) → from ≤ at → drop from xs ≡ drop from ys → drop at xs ≡ drop at ys
rest_kept xs ys from at fits same = sym (drop_at xs from at fits) ∙ (ap (drop (at - from)) same ∙ drop_at ys from at fits)

pub map_same : {X Y : Type 0} (f g : X → Y) (xs ys : List X) (x : X) (y : Y) → length xs ≡ length ys → ((i : ℕ) → i < length ys → f (get_or xs i x) ≡ g (get_or ys i x)) → map f xs ≡ map g ys
map_same f g xs ys x y long each =
    ext_get_or y (map f xs) (map g ys) (length-map xs f ∙ (long ∙ sym (length-map ys g)))
    (λ i h.
    let a : i < length xs = omega (arith, h, length-map xs f) in
    let b : i < length ys = omega (arith, a, long) in
    get_or-map f xs i x y a ∙ (each i b ∙ sym (get_or-map g ys i x y b)))

sum_same : (f : Row → ℕ) (xs ys : List Row) (n : ℕ) → length xs ≡ length ys → ((v : ℕ) (d : Row) → v < length ys → f (get_or xs v d) ≡ f (get_or ys v d))
    → sum_by f (take n xs) ≡ sum_by f (take n ys)
sum_same f xs ys zero long each = refl
sum_same f [] [] (suc n) long each = refl
sum_same f [] (y ∷ ys) (suc n) long each = absurd (omega arith)
sum_same f (x ∷ xs) [] (suc n) long each = absurd (omega arith)
sum_same f (x ∷ xs) (y ∷ ys) (suc n) long each =
    let rest = sum_same f xs ys n (omega arith) (λ v d h. each (suc v) d (omega arith)) in
    let here = each zero x (omega arith) in
    omega (arith, rest, here, sum_by-cons f x (take n xs), sum_by-cons f y (take n ys))

-- of the first v rows none lies behind its place, and the others lie where they did
pub record PulledTo (old rows : List Row) (cells0 cells : List End) (v next : ℕ) : Type 0 where
  pub long : length rows ≡ length old
  pub size : length cells ≡ length cells0
  pub rest : (w : ℕ) (d : Row) → v ≤ w → w < length old → get_or rows w d ≡ get_or old w d
  pub next_is : next ≡ sum_by want_of (take v old)
  pub back : (w : ℕ) (d : Row) → v ≤ w → w < length old → row_run cells (get_or old w d) ≡ row_run cells0 (get_or old w d)
  pub low : (w : ℕ) (d : Row) → w < v → w < length old → (get_or rows w d).start ≤ sum_by want_of (take w old)
  pub left : (w : ℕ) (d : Row) → w < v → w < length old → (get_or rows w d).start ≤ (get_or old w d).start
  pub ends : (w : ℕ) (d : Row) → w < v → w < length old → (get_or rows w d).start + (get_or rows w d).len ≤ next
  pub kept : (w : ℕ) (d : Row) → w < v → w < length old → IsKept (get_or old w d) (get_or rows w d) cells0 cells

pub pulled_none : (old : List Row) (cells : List End) → PulledTo old old cells cells 0 0
pulled_none old cells = record {
  long = refl;
  size = refl;
  rest = λ w d a b. refl;
  next_is = refl;
  back = λ w d a b. refl;
  low = λ w d a b. absurd (omega arith);
  left = λ w d a b. absurd (omega arith);
  ends = λ w d a b. absurd (omega arith);
  kept = λ w d a b. absurd (omega arith);
}

pub pulled_more : (old rows : List Row) (cells0 cells cells' : List End) (v next place : ℕ) (row : Row) → PulledTo old rows cells0 cells v next → AreLaid old (length cells0) → v < length old
    → row ≡ get_or rows v row → place ≡ min row.start next
    → take row.len (drop place cells') ≡ take row.len (drop row.start cells) → take place cells' ≡ take place cells
    → drop (place + row.len) cells' ≡ drop (place + row.len) cells → length cells' ≡ length cells
    → PulledTo old (set rows v (record { start = place; len = row.len; spare = row.spare; fresh = row.fresh })) cells0 cells' (v + 1) (next + (row.len + row.fresh))
pulled_more old rows cells0 cells cells' v next place row so laid below is least copied before after size =
    let new : Row = record { start = place; len = row.len; spare = row.spare; fresh = row.fresh } in
    let in_rows : v < length rows = omega (arith, below, so.long) in
    let was : row ≡ get_or old v row = is ∙ so.rest v row (omega arith) below in
    let under : place ≤ row.start = omega (arith, least) in
    let most : place ≤ next = omega (arith, least) in
    let inside : row_end row ≤ length cells0 = omega (arith, laid.within v row below, ap row_end was) in
    let at_v : (w : ℕ) (d : Row) → w ≡ v → get_or (set rows v new) w d ≡ new = λ w d e. ap (λ (n : ℕ). get_or (set rows v new) n d) e ∙ get_or-set_same rows v new d in_rows in
    let old_at : (w : ℕ) (d : Row) → w ≡ v → get_or old w d ≡ row = λ w d e. ap (λ (n : ℕ). get_or old n d) e ∙ (get_or_default old v d row below ∙ sym was) in
    let run : take row.len (drop place cells') ≡ take row.len (drop row.start cells0) =
    copied ∙ (ap (row_run cells) was ∙ (so.back v row (omega arith) below ∙ sym (ap (row_run cells0) was))) in
    record {
      long = length-set rows v new ∙ so.long;
      size = size ∙ so.size;
      rest = λ w d a b. get_or-set_other rows v w new d (omega arith) ∙ so.rest w d (omega arith) b;
      next_is = omega (arith, so.next_is, sum_by_more want_of old v row below, ap want_of was);
      back = λ w d a b.
          let apart = laid.apart v w d (omega arith) b in
          let behind : place + row.len ≤ (get_or old w d).start = omega (arith, under, apart, ap row_end (old_at v d refl)) in
          ap (take (get_or old w d).len) (rest_kept cells' cells (place + row.len) (get_or old w d).start behind after) ∙ so.back w d (omega arith) b;
      low = λ w d a b. elim (cases_eq w v) [
        | inl e ↦ omega (arith, ap (λ (r : Row). r.start) (at_v w d e), most, so.next_is, ap (λ (n : ℕ). sum_by want_of (take n old)) e)
        | inr ne ↦ omega (arith, ap (λ (r : Row). r.start) (get_or-set_other rows v w new d ne), so.low w d (omega (arith, a, ne)) b)
      ];
      left = λ w d a b. elim (cases_eq w v) [
        | inl e ↦ omega (arith, ap (λ (r : Row). r.start) (at_v w d e), under, ap (λ (r : Row). r.start) (old_at w d e))
        | inr ne ↦ omega (arith, ap (λ (r : Row). r.start) (get_or-set_other rows v w new d ne), so.left w d (omega (arith, a, ne)) b)
      ];
      ends = λ w d a b. elim (cases_eq w v) [
        | inl e ↦ omega (arith, ap (λ (r : Row). r.start + r.len) (at_v w d e), most)
        | inr ne ↦ omega (arith, ap (λ (r : Row). r.start + r.len) (get_or-set_other rows v w new d ne), so.ends w d (omega (arith, a, ne)) b)
      ];
      kept = λ w d a b. elim (cases_eq w v) [
        | inl e ↦
            let here = at_v w d e in
            let there = old_at w d e in
            rw (here, there) (record { len = refl; fresh = refl; run = run; inside = omega (arith, under, inside, size, so.size) })
        | inr ne ↦
            let lower : w < v = omega (arith, a, ne) in
            let same : get_or (set rows v new) w d ≡ get_or rows w d = get_or-set_other rows v w new d ne in
            let m = so.kept w d lower b in
            let front : (get_or rows w d).start + (get_or rows w d).len ≤ place =
            omega (arith, least, so.ends w d lower b, so.left w d lower b, m.len, laid.apart w v d lower below, ap (λ (r : Row). r.start) (old_at v d refl)) in
            rw same (record {
              len = m.len;
              fresh = m.fresh;
              run = run_kept cells' cells (get_or rows w d).start (get_or rows w d).len place front before ∙ m.run;
              inside = omega (arith, m.inside, size);
            })
      ];
    }

-- when all are
pub pulled_all : (old rows : List Row) (cells0 cells : List End) (v next : ℕ) → PulledTo old rows cells0 cells v next → length old ≤ v → AreReady old rows cells0 cells
pulled_all old rows cells0 cells v next so past = record {
  low = λ w d h.
      let below : w < length old = omega (arith, h, so.long) in
      let same : sum_by want_of (take w rows) ≡ sum_by want_of (take w old) =
      sum_same want_of rows old w so.long (λ u e a. omega (arith, (so.kept u e (omega arith) a).len, (so.kept u e (omega arith) a).fresh)) in
      omega (arith, so.low w d (omega arith) below, same);
  kept = λ w d h. so.kept w d (omega arith) h;
}

sum_all : (f : Row → ℕ) (xs ys : List Row) → length xs ≡ length ys → ((v : ℕ) (d : Row) → v < length ys → f (get_or xs v d) ≡ f (get_or ys v d)) → sum_by f xs ≡ sum_by f ys
sum_all f [] [] long each = refl
sum_all f [] (y ∷ ys) long each = absurd (omega arith)
sum_all f (x ∷ xs) [] long each = absurd (omega arith)
sum_all f (x ∷ xs) (y ∷ ys) long each =
    let rest = sum_all f xs ys (omega arith) (λ v d h. each (suc v) d (omega arith)) in
    let here = each zero x (omega arith) in
    omega (arith, rest, here, sum_by-cons f x xs, sum_by-cons f y ys)

-- they want what they wanted
pub ready_wanted : (old rows : List Row) (cells0 cells : List End) → length rows ≡ length old → AreReady old rows cells0 cells → sum_by want_of rows ≡ sum_by want_of old
ready_wanted old rows cells0 cells long ready = sum_all want_of rows old long (λ v d h. omega (arith, (ready.kept v d h).len, (ready.kept v d h).fresh))

-- cells that begin like these show the same runs
pub ready_runs : (old rows : List Row) (cells0 cells made : List End) → length rows ≡ length old → AreReady old rows cells0 cells
    → ((n : ℕ) → n ≤ sum_by want_of rows → n ≤ length cells → take n made ≡ take n cells) → map (row_run made) rows ≡ map (row_run cells0) old
ready_runs old rows cells0 cells made long ready front =
    let d : Row = record { start = 0; len = 0; spare = 0; fresh = 0 } in
    map_same (row_run made) (row_run cells0) rows old d [] long (λ v h.
    (let p = ready.kept v d h in
    let in_rows : v < length rows = omega (arith, h, long) in
    let start : ℕ = (get_or rows v d).start in
    let len : ℕ = (get_or rows v d).len in
    let wants : start + len ≤ sum_by want_of rows = omega (arith, ready.low v d in_rows, sum_by_more_le want_of rows v d in_rows) in
    run_kept made cells start len (start + len) (omega arith) (front (start + len) wants p.inside) ∙ p.run))

pub ready_fresh : (old rows : List Row) (cells0 cells : List End) → length rows ≡ length old → AreReady old rows cells0 cells
    → map (λ (row : Row). row.fresh) rows ≡ map (λ (row : Row). row.fresh) old
ready_fresh old rows cells0 cells long ready =
    let d : Row = record { start = 0; len = 0; spare = 0; fresh = 0 } in
    map_same (λ (row : Row). row.fresh) (λ (row : Row). row.fresh) rows old d 0 long (λ v h. (ready.kept v d h).fresh)

pub ready_zero : (old rows : List Row) → length rows ≡ length old → map {B = ℕ} (λ (row : Row). 0) rows ≡ map {B = ℕ} (λ (row : Row). 0) old
ready_zero old rows long =
    let d : Row = record { start = 0; len = 0; spare = 0; fresh = 0 } in
    map_same (λ (row : Row). 0) (λ (row : Row). 0) rows old d 0 long (λ v h. refl)
