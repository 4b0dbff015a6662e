-- The whole array, as slices are cut from it and cells are written.
use Rattle.std.proofs.Common.{◌≡◌, ◌≢◌, ℕ, ◌+◌, ◌-◌, ◌*◌, ◌<◌, ◌≤◌, List, ◌++◌, length, get_or, set, map, replicate, ap, sym, ◌∙◌, subst, arith, inl, inr, append_assoc}
use Rattle.std.proofs.lemmas.Bool.{cases_lt, cases_eq}
use Rattle.std.proofs.lemmas.List.{length-append, length-replicate, length-set, length-map, get_or_append_left, set-append_left, replicate-append-replicate}
use Rattle.gj_pool.specs.Lists.{appended}
use Rattle.gj_pool.specs.Slices.{Sliced, array_of, AreSlices, cut_for}
use Rattle.gj_pool.specs.declared.slices.Row.{Row}
use Rattle.gj_pool.proofs.RowLemmas.{view_of, put_lists}
use Rattle.gj_pool.proofs.PushLemmas.{Readies, link_within, made_ready, next_fits, slice_fits, slices_pushed}

pub array_long : (cut : List ℕ) (room : ℕ) → length cut ≤ room → length (array_of cut room) ≡ room
array_long cut room few =
    omega (arith, length-append cut (replicate (room - length cut) 0), length-replicate {A = ℕ} (room - length cut) 0)

more_zeros : (cut : List ℕ) (size left : ℕ) → (cut ++ replicate size 0) ++ replicate left 0 ≡ cut ++ replicate (size + left) 0
more_zeros cut size left =
    append_assoc cut (replicate size 0) (replicate left 0) ∙ ap (λ (l : List ℕ). cut ++ l) (replicate-append-replicate size left 0)

-- cells that are cut stay zeros
pub array_cut : (cut : List ℕ) (room size : ℕ) → length cut + size ≤ room → array_of (cut ++ replicate size 0) room ≡ array_of cut room
array_cut cut room size fits =
    let long : length (cut ++ replicate size 0) ≡ length cut + size = omega (arith, length-append cut (replicate size 0), length-replicate {A = ℕ} size 0) in
    let all : size + (room - length (cut ++ replicate size 0)) ≡ room - length cut = omega (arith, long) in
    more_zeros cut size (room - length (cut ++ replicate size 0)) ∙ ap (λ (n : ℕ). cut ++ replicate n 0) all

pub array_set : (cut : List ℕ) (room i x : ℕ) → i < length cut → array_of (set cut i x) room ≡ set (array_of cut room) i x
array_set cut room i x below =
    ap (λ (n : ℕ). set cut i x ++ replicate (room - n) 0) (length-set cut i x)
    ∙ sym (set-append_left cut (replicate (room - length cut) 0) i x below)

pub array_read : (cut : List ℕ) (room i x : ℕ) → i < length cut → x ≡ get_or cut i 0 → x ≡ get_or (array_of cut room) i 0
array_read cut room i x below is = is ∙ sym (get_or_append_left cut (replicate (room - length cut) 0) 0 i below)

-- what a push finds: its row may have one more slice, and a full slice has its link
pub record Finds (cut : List ℕ) (room : ℕ) (rows : List Row) (v x : ℕ) (was : Row) (now : Sliced) : Type 0 where
  pub slices : AreSlices rows (array_of cut room) (length cut)
  pub few : length cut ≤ room
  pub within : v < length rows
  pub read : was ≡ get_or rows v was
  pub seen : map (view_of (array_of cut room)) rows ≡ now.lists
  pub whole : room ≡ now.room
  pub spare : cut_for (appended now.lists v x) ≤ length (array_of cut room)
  pub small : room ≤ 196608
  pub fits : was.degree ≡ was.full → length cut + was.full + 5 ≤ room
  pub link : was.degree ≡ was.full → 0 < was.full → was.next < length cut

pub finds : (cut : List ℕ) (room : ℕ) (rows : List Row) (v x : ℕ) (was : Row) (now : Sliced) → AreSlices rows (array_of cut room) (length cut) → length cut ≤ room → (let s : Sliced = record { lists = map (view_of (array_of cut room)) rows; room = room } in s) ≡ now → v < length now.lists → cut_for (appended now.lists v x) ≤ now.room → was ≡ get_or rows v was → Finds cut room rows v x was now
finds cut room rows v x was now slices few view in_range spare read =
    let cells : List ℕ = array_of cut room in
    let long : length cells ≡ room = array_long cut room few in
    let seen : map (view_of cells) rows ≡ now.lists = ap (λ (s : Sliced). s.lists) view in
    let same : room ≡ now.room = ap (λ (s : Sliced). s.room) view in
    let within : v < length rows = omega (arith, in_range, ap length seen, length-map rows (view_of cells)) in
    let spare' : cut_for (appended now.lists v x) ≤ length cells = omega (arith, spare, same, long) in
    record {
      slices = slices;
      few = few;
      within = within;
      read = read;
      seen = seen;
      whole = same;
      spare = spare';
      small = omega (arith, slices.small, long);
      fits = λ full. omega (arith, slice_fits rows cells (length cut) v x was now.lists slices within read seen spare' full, long);
      link = λ full some. link_within rows cells (length cut) v was slices within read full some;
    }

-- how the row is made ready
pub record Cuts (was row : Row) (cut new : List ℕ) : Type 0 where
  pub spare : was.degree ≢ was.full → (row ≡ was) × (new ≡ cut)
  pub opened : was.degree ≡ was.full → (row.degree ≡ was.degree) × (row.full ≡ 2 * was.full + 4) × (row.next ≡ length cut)
  pub begun : was.degree ≡ was.full → was.full ≡ 0 → (row.first ≡ length cut) × (new ≡ cut ++ replicate (was.full + 5) 0)
  pub linked : was.degree ≡ was.full → 0 < was.full → (row.first ≡ was.first) × (new ≡ set (cut ++ replicate (was.full + 5) 0) was.next (length cut))

-- as many cells are cut as the row needs
cut_long : (was row : Row) (cut new : List ℕ) → Cuts was row cut new → was.degree ≡ was.full → length new ≡ length cut + was.full + 5
cut_long was row cut new cuts full =
    let more : List ℕ = replicate (was.full + 5) 0 in
    let long : length (cut ++ more) ≡ length cut + was.full + 5 = omega (arith, length-append cut more, length-replicate {A = ℕ} (was.full + 5) 0) in
    elim (cases_lt 0 was.full) [
      | inl some ↦ ap length (cuts.linked full some).1 ∙ (length-set (cut ++ more) was.next (length cut) ∙ long)
      | inr none ↦ ap length (cuts.begun full (omega arith)).1 ∙ long
    ]

-- of the whole array, only the link is written
cut_readies : (cut new : List ℕ) (room : ℕ) (was row : Row) → Cuts was row cut new → (was.degree ≡ was.full → length cut + was.full + 5 ≤ room) → (was.degree ≡ was.full → 0 < was.full → was.next < length cut) → Readies was row (array_of cut room) (array_of new room) (length cut) (length new)
cut_readies cut new room was row cuts fits link =
    let size : ℕ = was.full + 5 in
    let more : List ℕ = cut ++ replicate size 0 in
    let array : List ℕ → List ℕ = λ l. array_of l room in
    record {
      spare = λ spare. (let e = cuts.spare spare in (e.0, ap array e.1, ap length e.1));
      opened = λ full. (let e = cuts.opened full in (e.0, e.1, e.2, cut_long was row cut new cuts full));
      begun = λ full none. (let e = cuts.begun full none in (e.0, ap array e.1 ∙ array_cut cut room size (omega (arith, fits full))));
      linked = λ full some.
          (let e = cuts.linked full some in
          let below : was.next < length more = omega (arith, link full some, length-append cut (replicate size 0)) in
          (e.0, ap array e.1 ∙ (array_set more room was.next (length cut) below ∙ ap (λ (l : List ℕ). set l was.next (length cut)) (array_cut cut room size (omega (arith, fits full))))));
    }

-- what a push leaves: the cell lies in a slice that is cut
pub record Leaves (new : List ℕ) (room : ℕ) (rows : List Row) (v x : ℕ) (row next : Row) (now : Sliced) : Type 0 where
  pub few : length (set new row.next x) ≤ room
  pub within : row.next < length new
  pub small : row.next < 196608
  pub slices : AreSlices (set rows v next) (array_of (set new row.next x) room) (length (set new row.next x))
  pub seen : map (view_of (array_of (set new row.next x) room)) (set rows v next) ≡ appended now.lists v x

pub leaves : (cut new : List ℕ) (room : ℕ) (rows : List Row) (v x : ℕ) (was row next : Row) (now : Sliced) → Finds cut room rows v x was now → Cuts was row cut new → next.degree ≡ row.degree + 1 → next.full ≡ row.full → next.first ≡ row.first → next.next ≡ row.next + 1 → Leaves new room rows v x row next now
leaves cut new room rows v x was row next now f cuts degree full first at =
    let cells : List ℕ = array_of cut room in
    let cells' : List ℕ = array_of new room in
    let how : Readies was row cells cells' (length cut) (length new) = cut_readies cut new room was row cuts f.fits f.link in
    let put = next_fits rows cells cells' (length cut) (length new) v x was row now.lists f.slices f.within f.read how f.seen f.spare in
    let after : AreSlices (set rows v next) (set cells' row.next x) (length new) =
    slices_pushed rows cells cells' (length cut) (length new) v x was row next now.lists f.slices f.within f.read how f.seen f.spare degree full first at in
    let ready = made_ready rows cells cells' (length cut) (length new) v was row f.slices f.within f.read how in
    let fits : length new ≤ length cells' = omega (arith, after.within, length-set cells' row.next x) in
    let same : array_of (set new row.next x) room ≡ set cells' row.next x = array_set new room row.next x put.0 in
    let long : length (set new row.next x) ≡ length new = length-set new row.next x in
    record {
      few = elim (cases_eq was.degree was.full) [
        | inl is ↦ omega (arith, long, cut_long was row cut new cuts is, f.fits is)
        | inr spare ↦ omega (arith, long, ap length (cuts.spare spare).1, f.few)
      ];
      within = put.0;
      small = put.1;
      slices = subst (λ (l : List ℕ). AreSlices (set rows v next) l (length (set new row.next x))) (sym same)
          (subst (λ (n : ℕ). AreSlices (set rows v next) (set cells' row.next x) n) (sym long) after);
      seen = ap (λ (l : List ℕ). map (view_of l) (set rows v next)) same
          ∙ put_lists rows cells cells' (length new) v was row next x now.lists ready f.within f.read fits degree first f.seen;
    }
