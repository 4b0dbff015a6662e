-- The runs spread in one array, from the last one to the first, each with room for what was noted.
use Rattle.std.proofs.Common.{◌≡◌, ℕ, zero, suc, ◌+◌, ◌-◌, ◌<◌, ◌≤◌, ◌∙◌, List, [], ◌∷◌, ◌++◌, length, map, take, drop, set, get_or, replicate, refl, arith, sym, ap, subst, inl, inr}
use Rattle.std.specs.List.{sum_by}
use Rattle.std.proofs.lemmas.Bool.{cases_eq}
use Rattle.std.proofs.lemmas.List.{length-set, length-take, length-drop, take-take, get_or-set_same, get_or-set_other, get_or_default}
use Rattle.std.proofs.lemmas.List.Sums.{sum_by_more, sum_by-cons, sum_by-append, sum_by-take-drop}
use Rattle.gj_compact.specs.declared.lane.Row.{Row}
use Rattle.gj_compact.specs.declared.edge.End.{End}
use Rattle.gj_compact.specs.Lanes.{AreLaid, all_rows, laned, unused_row, row_run, row_end, want_of, wanted, opened}
use Rattle.gj_compact.specs.Moves.{AreLow}
use Rattle.gj_compact.proofs.PullLemmas.{run_kept, rest_kept, map_same}
use Rattle.gj_compact.proofs.RowLemmas.{laid_behind, map_all}

-- a row in its new place
pub record IsMoved (old new : Row) (cells back : List End) : Type 0 where
  pub len : new.len ≡ old.len
  pub spare : new.spare ≡ old.fresh
  pub fresh : new.fresh ≡ 0
  pub run : row_run back new ≡ row_run cells old

-- the rows from v on are in their new places, which begin at next, and what lies before is what lay there
pub record SpreadFrom (old rows : List Row) (cells0 cells : List End) (v next : ℕ) : Type 0 where
  pub long : length rows ≡ length old
  pub size : length cells ≡ length cells0
  pub rest : (w : ℕ) (d : Row) → w < v → get_or rows w d ≡ get_or old w d
  pub next_is : next ≡ sum_by want_of (take v old)
  pub front : take next cells ≡ take next cells0
  pub low : (w : ℕ) (d : Row) → v ≤ w → w < length old → next ≤ (get_or rows w d).start
  pub within : (w : ℕ) (d : Row) → v ≤ w → w < length old → row_end (get_or rows w d) ≤ length cells0
  pub moved : (w : ℕ) (d : Row) → v ≤ w → w < length old → IsMoved (get_or old w d) (get_or rows w d) cells0 cells
  pub apart : (u w : ℕ) (d : Row) → v ≤ u → u < w → w < length old → row_end (get_or rows u d) ≤ (get_or rows w d).start

pub spread_none : (old : List Row) (cells : List End) (v next : ℕ) → v ≡ length old → next ≡ sum_by want_of (take v old) → SpreadFrom old old cells cells v next
spread_none old cells v next e is = record {
  long = refl;
  size = refl;
  rest = λ w d a. refl;
  next_is = is;
  front = refl;
  low = λ w d a b. absurd (omega arith);
  within = λ w d a b. absurd (omega arith);
  moved = λ w d a b. absurd (omega arith);
  apart = λ u w d a b h. absurd (omega arith);
}

-- what lies before a lower place too
front_less : (xs ys : List End) (n m : ℕ) → n ≤ m → take m xs ≡ take m ys → take n xs ≡ take n ys
front_less xs ys n m less same = sym (take-take n m xs less) ∙ (ap (take n) same ∙ take-take n m ys less)

pub spread_more : (old rows : List Row) (cells0 cells cells' : List End) (v next : ℕ) (row : Row) → SpreadFrom old rows cells0 cells (v + 1) (next + (row.len + row.fresh)) → AreLow old → v < length old
    → next + (row.len + row.fresh) ≤ length cells0
    → row ≡ get_or rows v row → take row.len (drop next cells') ≡ take row.len (drop row.start cells) → take next cells' ≡ take next cells
    → drop (next + row.len) cells' ≡ drop (next + row.len) cells → length cells' ≡ length cells
    → SpreadFrom old (set rows v (record { start = next; len = row.len; spare = row.fresh; fresh = 0 })) cells0 cells' v next
spread_more old rows cells0 cells cells' v next row so low_all below fits is copied before after size =
    let new : Row = record { start = next; len = row.len; spare = row.fresh; fresh = 0 } in
    let limit : ℕ = next + (row.len + row.fresh) in
    let in_rows : v < length rows = omega (arith, below, so.long) in
    let was : row ≡ get_or old v row = is ∙ so.rest v row (omega arith) in
    let next_is : next ≡ sum_by want_of (take v old) = omega (arith, so.next_is, sum_by_more want_of old v row below, ap want_of was) in
    let inside : row.start + row.len ≤ limit = omega (arith, low_all v row below, ap (λ (r : Row). r.start) was, next_is) in
    let run : take row.len (drop next cells') ≡ take row.len (drop row.start cells0) = copied ∙ run_kept cells cells0 row.start row.len limit inside so.front in
    let front : take next cells ≡ take next cells0 = front_less cells cells0 next limit (omega arith) so.front in
    let at_v : (d : Row) → get_or (set rows v new) v d ≡ new = λ d. get_or-set_same rows v new d in_rows in
    let other : (w : ℕ) (d : Row) → v < w → get_or (set rows v new) w d ≡ get_or rows w d = λ w d a. get_or-set_other rows v w new d (omega arith) in
    record {
      long = length-set rows v new ∙ so.long;
      size = size ∙ so.size;
      rest = λ w d a. get_or-set_other rows v w new d (omega arith) ∙ so.rest w d (omega arith);
      next_is = next_is;
      front = before ∙ front;
      low = λ w d a b. elim (cases_eq w v) [
        | inl e ↦ rw (e, at_v d) (omega arith)
        | inr ne ↦ omega (arith, ap (λ (r : Row). r.start) (other w d (omega (arith, a, ne))), so.low w d (omega (arith, a, ne)) b)
      ];
      within = λ w d a b. elim (cases_eq w v) [
        | inl e ↦ rw (e, at_v d) (omega (arith, fits))
        | inr ne ↦ omega (arith, ap row_end (other w d (omega (arith, a, ne))), so.within w d (omega (arith, a, ne)) b)
      ];
      moved = λ w d a b. elim (cases_eq w v) [
        | inl e ↦
            let here : get_or (set rows v new) w d ≡ new = ap (λ (n : ℕ). get_or (set rows v new) n d) e ∙ at_v d in
            let there : get_or old w d ≡ row = ap (λ (n : ℕ). get_or old n d) e ∙ (get_or_default old v d row below ∙ sym was) in
            rw (here, there) (record { len = refl; spare = refl; fresh = refl; run = run })
        | inr ne ↦
            let higher : v + 1 ≤ w = omega (arith, a, ne) in
            let m = so.moved w d higher b in
            let behind : next + row.len ≤ (get_or rows w d).start = omega (arith, so.low w d higher b) in
            rw (other w d (omega arith)) (record {
              len = m.len;
              spare = m.spare;
              fresh = m.fresh;
              run = ap (take (get_or rows w d).len) (rest_kept cells' cells (next + row.len) (get_or rows w d).start behind after) ∙ m.run;
            })
      ];
      apart = λ u w d a b h.
          let at_w = other w d (omega arith) in
          let higher : v + 1 ≤ w = omega arith in
          elim (cases_eq u v) [
            | inl e ↦
                let here : get_or (set rows v new) u d ≡ new = ap (λ (n : ℕ). get_or (set rows v new) n d) e ∙ at_v d in
                omega (arith, ap row_end here, ap (λ (r : Row). r.start) at_w, so.low w d higher h)
            | inr ne ↦ omega (arith, ap row_end (other u d (omega (arith, a, ne))), ap (λ (r : Row). r.start) at_w, so.apart u w d (omega (arith, a, ne)) b h)
          ];
    }

-- what is known of the row that is next
pub record IsNext (row : Row) (next size : ℕ) : Type 0 where
  pub wants : row.len + row.fresh ≤ next
  pub few : next ≤ size
  pub inside : row.start + row.len ≤ next

next_row : (old rows : List Row) (cells0 cells : List End) (v next : ℕ) (row : Row) → SpreadFrom old rows cells0 cells (v + 1) next → AreLow old → length cells0 ≡ sum_by want_of old → v < length old
    → row ≡ get_or rows v row → IsNext row next (length cells0)
next_row old rows cells0 cells v next row so low_all size below is =
    let was : row ≡ get_or old v row = is ∙ so.rest v row (omega arith) in
    let more = sum_by_more want_of old v row below in
    record {
      wants = omega (arith, so.next_is, more, ap want_of was);
      few = omega (arith, so.next_is, sum_by-take-drop want_of old (v + 1), size);
      inside = omega (arith, low_all v row below, ap (λ (r : Row). r.start) was, so.next_is, more, ap want_of was);
    }

pub spread_next : (old rows : List Row) (cells0 cells : List End) (v next : ℕ) (row : Row) → SpreadFrom old rows cells0 cells v next → AreLow old → length cells0 ≡ sum_by want_of old
    → 0 < v → v ≤ length old → row ≡ get_or rows (v - 1) row → IsNext row next (length cells0)
spread_next old rows cells0 cells v next row so low_all size any most is =
    let e : v ≡ v - 1 + 1 = omega arith in
    next_row old rows cells0 cells (v - 1) next row (subst (λ (n : ℕ). SpreadFrom old rows cells0 cells n next) e so) low_all size (omega arith) is

pub spread_step : (old rows : List Row) (cells0 cells cells' : List End) (v next : ℕ) (row : Row) → SpreadFrom old rows cells0 cells v next → AreLow old → length cells0 ≡ sum_by want_of old
    → 0 < v → v ≤ length old → row ≡ get_or rows (v - 1) row
    → take row.len (drop (next - (row.len + row.fresh)) cells') ≡ take row.len (drop row.start cells) → take (next - (row.len + row.fresh)) cells' ≡ take (next - (row.len + row.fresh)) cells
    → drop (next - (row.len + row.fresh) + row.len) cells' ≡ drop (next - (row.len + row.fresh) + row.len) cells → length cells' ≡ length cells
    → SpreadFrom old (set rows (v - 1) (record { start = next - (row.len + row.fresh); len = row.len; spare = row.fresh; fresh = 0 })) cells0 cells' (v - 1) (next - (row.len + row.fresh))
spread_step old rows cells0 cells cells' v next row so low_all size any most is copied before after same =
    let e : v ≡ v - 1 + 1 = omega arith in
    let known = spread_next old rows cells0 cells v next row so low_all size any most is in
    let e' : next ≡ next - (row.len + row.fresh) + (row.len + row.fresh) = omega (arith, known.wants) in
    let so' = subst (λ (n : ℕ). SpreadFrom old rows cells0 cells n next) e so in
    spread_more old rows cells0 cells cells' (v - 1) (next - (row.len + row.fresh)) row (subst (λ (m : ℕ). SpreadFrom old rows cells0 cells (v - 1 + 1) m) e' so') low_all (omega arith)
    (omega (arith, known.wants, known.few)) is copied before after same

-- when all are in place
pub spread_laid : (old rows : List Row) (cells0 cells : List End) (next : ℕ) → SpreadFrom old rows cells0 cells 0 next → AreLaid rows (length cells)
spread_laid old rows cells0 cells next so = record {
  within = λ w d h. omega (arith, so.within w d (omega arith) (omega (arith, h, so.long)), so.size);
  apart = λ u w d a h. so.apart u w d (omega arith) a (omega (arith, h, so.long));
}

-- each row shows what it should
shows_all : {Y : Type 0} (f g : Row → Y) (old rows : List Row) (cells0 cells : List End) (next : ℕ) → SpreadFrom old rows cells0 cells 0 next
    → ((r r' : Row) → IsMoved r r' cells0 cells → f r' ≡ g r) → map f rows ≡ map g old
shows_all f g old rows cells0 cells next so each =
    let d : Row = unused_row 0 in
    map_same f g rows old d (g d) so.long (λ i h. each (get_or old i d) (get_or rows i d) (so.moved i d (omega arith) h))

pub all_runs : (old rows : List Row) (cells0 cells : List End) (next : ℕ) → SpreadFrom old rows cells0 cells 0 next → map (row_run cells) rows ≡ map (row_run cells0) old
all_runs old rows cells0 cells next so = shows_all (row_run cells) (row_run cells0) old rows cells0 cells next so (λ r r' m. m.run)

pub all_spare : (old rows : List Row) (cells0 cells : List End) (next : ℕ) → SpreadFrom old rows cells0 cells 0 next
    → map (λ (row : Row). row.spare) rows ≡ map (λ (row : Row). row.fresh) old
all_spare old rows cells0 cells next so = shows_all (λ (row : Row). row.spare) (λ (row : Row). row.fresh) old rows cells0 cells next so (λ r r' m. m.spare)

pub all_fresh : (old rows : List Row) (cells0 cells : List End) (next : ℕ) → SpreadFrom old rows cells0 cells 0 next
    → map (λ (row : Row). row.fresh) rows ≡ map (λ (row : Row). 0) old
all_fresh old rows cells0 cells next so = shows_all (λ (row : Row). row.fresh) (λ (row : Row). 0) old rows cells0 cells next so (λ r r' m. m.fresh)

-- what the lists and the notes want is what the rows want
pub wanted_is : (rows : List Row) (cells : List End) → ((v : ℕ) (d : Row) → v < length rows → row_end (get_or rows v d) ≤ length cells)
    → sum_by (λ (run : List End). length run) (map (row_run cells) rows) + sum_by (λ (n : ℕ). n) (map (λ (row : Row). row.fresh) rows) ≡ sum_by want_of rows
wanted_is [] cells within = refl
wanted_is (row ∷ rows) cells within =
    let rest = wanted_is rows cells (λ v d h. within (suc v) d (omega arith)) in
    let inside = within zero row (omega arith) in
    let long : length (row_run cells row) ≡ row.len = omega (arith, length-take row.len (drop row.start cells), length-drop row.start cells, inside) in
    omega (
      arith,
      rest,
      long,
      sum_by-cons (λ (run : List End). length run) (row_run cells row) (map (row_run cells) rows),
      sum_by-cons (λ (n : ℕ). n) row.fresh (map (λ (r : Row). r.fresh) rows),
      sum_by-cons want_of row rows,
    )

none_wanted : (n size : ℕ) → sum_by want_of (replicate n (unused_row size)) ≡ 0
none_wanted zero size = refl
none_wanted (suc n) size = omega (arith, none_wanted n size, sum_by-cons want_of (unused_row size) (replicate n (unused_row size)))

-- the same of the rows that there are
pub all_wanted : (rows : List Row) (n : ℕ) (cells : List End) (room : ℕ) → AreLaid rows (length cells) → wanted (laned (all_rows rows n (length cells)) cells room) ≡ sum_by want_of rows
all_wanted rows n cells room laid =
    let size : ℕ = length cells in
    let all = laid_behind rows size (n - length rows) laid in
    omega (
      arith,
      wanted_is (all_rows rows n size) cells all.within,
      sum_by-append want_of rows (replicate (n - length rows) (unused_row size)),
      none_wanted (n - length rows) size,
    )

map_zero : (rows : List Row) → map {B = ℕ} (λ (row : Row). 0) rows ≡ map {B = ℕ} (λ (n : ℕ). 0) (map (λ (row : Row). row.fresh) rows)
map_zero [] = refl
map_zero (row ∷ rows) = let rest = map_zero rows in rw rest refl

pub lane_opened : (rows rows' : List Row) (n : ℕ) (cells back : List End) (room : ℕ) → length rows' ≡ length rows → map (row_run back) rows' ≡ map (row_run cells) rows
    → map (λ (row : Row). row.spare) rows' ≡ map (λ (row : Row). row.fresh) rows → map (λ (row : Row). row.fresh) rows' ≡ map {B = ℕ} (λ (row : Row). 0) rows
    → laned (all_rows rows' n (length back)) back room ≡ opened (laned (all_rows rows n (length cells)) cells room)
lane_opened rows rows' n cells back room long a b c =
    let old : List Row = all_rows rows n (length cells) in
    let new : List Row = all_rows rows' n (length back) in
    let runs : map (row_run back) new ≡ map (row_run cells) old =
    map_all (row_run back) [] rows' n (length back) refl
    ∙ (ap (λ (l : List (List End)). l ++ replicate (n - length rows') []) a
    ∙ (ap (λ (k : ℕ). map (row_run cells) rows ++ replicate (n - k) []) long ∙ sym (map_all (row_run cells) [] rows n (length cells) refl))) in
    let spare : map (λ (row : Row). row.spare) new ≡ map (λ (row : Row). row.fresh) old =
    map_all (λ (row : Row). row.spare) 0 rows' n (length back) refl
    ∙ (ap (λ (l : List ℕ). l ++ replicate (n - length rows') 0) b
    ∙ (ap (λ (k : ℕ). map (λ (row : Row). row.fresh) rows ++ replicate (n - k) 0) long ∙ sym (map_all (λ (row : Row). row.fresh) 0 rows n (length cells) refl))) in
    let fresh : map (λ (row : Row). row.fresh) new ≡ map {B = ℕ} (λ (row : Row). 0) old =
    map_all (λ (row : Row). row.fresh) 0 rows' n (length back) refl
    ∙ (ap (λ (l : List ℕ). l ++ replicate (n - length rows') 0) c
    ∙ (ap (λ (k : ℕ). map {B = ℕ} (λ (row : Row). 0) rows ++ replicate (n - k) 0) long ∙ sym (map_all (λ (row : Row). 0) 0 rows n (length cells) refl))) in
    let z = fresh ∙ map_zero old in
    rw (runs, spare, z) refl
