-- The rows of all vertices, with those behind the rows that there are.
use Rattle.std.proofs.Common.{◌≡◌, ℕ, ◌+◌, ◌-◌, ◌<◌, ◌≤◌, ◌∙◌, List, [], ◌++◌, length, map, drop, set, get_or, take, slice_get, Some, replicate, refl, arith, sym, ap, subst, inl, inr, append_assoc}
use Rattle.std.proofs.lemmas.Bool.{cases_lt}
use Rattle.std.proofs.lemmas.List.{length-map, length-set, length-take, length-drop, get_or-map, map-append, set-append_left, length-append, length-replicate, replicate-append-replicate, get_or_default, get_or_past, get_or-replicate, get_or_append_left, get_or-append_right, get_or-take, get_or-drop}
use Rattle.std.proofs.lemmas.Option.{slice_get-get_or}
use Rattle.gj_base.specs.declared.kind.Kind.TheVariants.{Click}
use Rattle.gj_compact.specs.declared.lane.Row.{Row}
use Rattle.gj_compact.specs.declared.edge.End.{End}
use Rattle.gj_compact.specs.Cells.{Celled}
use Rattle.gj_compact.specs.Lanes.{AreLaid, IsLane, Laned, all_rows, shown_by, unused_row, row_run, row_end, run_of, emptied}
use Rattle.gj_compact.proofs.LaneLemmas.{map-replicate}

pub all_long : (rows : List Row) (n size : ℕ) → length rows ≤ n → length (all_rows rows n size) ≡ n
all_long rows n size few =
    omega (arith, length-append rows (replicate (n - length rows) (unused_row size)), length-replicate (n - length rows) (unused_row size))

pub all_get : (rows : List Row) (n size v : ℕ) (d : Row) → v < length rows → get_or (all_rows rows n size) v d ≡ get_or rows v d
all_get rows n size v d below = get_or_append_left rows (replicate (n - length rows) (unused_row size)) d v below

pub all_is : (rows : List Row) (n size v : ℕ) (row : Row) → v < length rows → row ≡ get_or rows v row → row ≡ get_or (all_rows rows n size) v row
all_is rows n size v row below is = is ∙ sym (all_get rows n size v row below)

pub all_set : (rows : List Row) (n size v : ℕ) (new : Row) → v < length rows → all_rows (set rows v new) n size ≡ set (all_rows rows n size) v new
all_set rows n size v new below =
    ap (λ (k : ℕ). set rows v new ++ replicate (n - k) (unused_row size)) (length-set rows v new)
    ∙ sym (set-append_left rows (replicate (n - length rows) (unused_row size)) v new below)

pub all_below : (rows : List Row) (n size v : ℕ) → length rows ≤ n → v < length rows → v < length (all_rows rows n size)
all_below rows n size v few below = omega (arith, all_long rows n size few)

-- more rows for which nothing was noted
pub all_more : (rows : List Row) (n size k : ℕ) → length rows + k ≤ n → all_rows (rows ++ replicate k (unused_row size)) n size ≡ all_rows rows n size
all_more rows n size k few =
    let row : Row = unused_row size in
    let long : length (rows ++ replicate k row) ≡ length rows + k = omega (arith, length-append rows (replicate k row), length-replicate k row) in
    let left : n - (length rows + k) ≡ n - length rows - k = omega arith in
    let all : k + (n - length rows - k) ≡ n - length rows = omega arith in
    ap (λ (m : ℕ). (rows ++ replicate k row) ++ replicate (n - m) row) long
    ∙ (ap (λ (m : ℕ). (rows ++ replicate k row) ++ replicate m row) left
    ∙ (append_assoc rows (replicate k row) (replicate (n - length rows - k) row)
    ∙ (ap (λ (l : List Row). rows ++ l) (replicate-append-replicate k (n - length rows - k) row) ∙ ap (λ (m : ℕ). rows ++ replicate m row) all)))

pub laid_behind : (rows : List Row) (size k : ℕ) → AreLaid rows size → AreLaid (rows ++ replicate k (unused_row size)) size
laid_behind rows size k laid =
    let row : Row = unused_row size in
    let long : length (rows ++ replicate k row) ≡ length rows + k = omega (arith, length-append rows (replicate k row), length-replicate k row) in
    let front : (v : ℕ) (d : Row) → v < length rows → get_or (rows ++ replicate k row) v d ≡ get_or rows v d = λ v d h. get_or_append_left rows (replicate k row) d v h in
    let back : (v : ℕ) (d : Row) → length rows ≤ v → v < length (rows ++ replicate k row) → get_or (rows ++ replicate k row) v d ≡ row = λ v d a h.
    get_or-append_right rows (replicate k row) (length rows) v d refl a ∙ get_or-replicate k (v - length rows) row d (omega (arith, h, long)) in
    let within : (v : ℕ) (d : Row) → v < length (rows ++ replicate k row) → row_end (get_or (rows ++ replicate k row) v d) ≤ size = λ v d h. elim (cases_lt v (length rows)) [
      | inl a ↦ omega (arith, ap row_end (front v d a), laid.within v d a)
      | inr a ↦ omega (arith, ap row_end (back v d a h))
    ] in
    record {
      within = within;
      apart = λ v w d a h. elim (cases_lt w (length rows)) [
        | inl b ↦ omega (arith, ap row_end (front v d (omega arith)), ap (λ (r : Row). r.start) (front w d b), laid.apart v w d a b)
        | inr b ↦ omega (arith, within v d (omega arith), ap (λ (r : Row). r.start) (back w d b h))
      ];
    }

pub map_all : {Y : Type 0} (f : Row → Y) (y : Y) (rows : List Row) (n size : ℕ) → f (unused_row size) ≡ y → map f (all_rows rows n size) ≡ map f rows ++ replicate (n - length rows) y
map_all f y rows n size is =
    map-append f rows (replicate (n - length rows) (unused_row size))
    ∙ ap (λ (l : List _). map f rows ++ l) (map-replicate f (unused_row size) (n - length rows) ∙ ap (replicate (n - length rows)) is)

-- what a vertex shows, by its row or none
shows_at : {Y : Type 0} (f : Row → Y) (y : Y) (rows : List Row) (n size v : ℕ) → f (unused_row size) ≡ y → f (unused_row 0) ≡ y → length rows ≤ n → v < n
    → get_or (map f (all_rows rows n size)) v y ≡ f (get_or rows v (unused_row 0))
shows_at f y rows n size v none none' few below =
    let all : v < length (all_rows rows n size) = omega (arith, all_long rows n size few) in
    get_or-map f (all_rows rows n size) v (unused_row 0) y all ∙ elim (cases_lt v (length rows)) [
      | inl a ↦ ap f (all_get rows n size v (unused_row 0) a)
      | inr a ↦
          ap f (get_or-append_right rows (replicate (n - length rows) (unused_row size)) (length rows) v (unused_row 0) refl a
          ∙ get_or-replicate (n - length rows) (v - length rows) (unused_row size) (unused_row 0) (omega arith))
          ∙ (none ∙ (sym none' ∙ sym (ap f (get_or_past rows v (unused_row 0) a))))
    ]

-- the row of a vertex, as a lane shows it
pub record IsRow (cells : Celled) (row : Row) (ends : List End) (left noted : ℕ) : Type 0 where
  pub run : row_run cells.ends row ≡ ends
  pub len : row.len ≡ length ends
  pub spare : row.spare ≡ left
  pub fresh : row.fresh ≡ noted
  pub within : row_end row ≤ length cells.ends
  pub small : length cells.ends ≤ 8388608

abbrev pub IsRowOf : Celled → Row → Laned → ℕ → Type 0
IsRowOf cells row lane v = IsRow cells row (run_of lane.runs v) (get_or lane.spare v 0) (get_or lane.fresh v 0)

vertex_in : (rows : List Row) (n : ℕ) (cells : Celled) (v : ℕ) → length rows ≤ n → v < length (shown_by rows n cells).runs → v < n
vertex_in rows n cells v few h = omega (arith, h, length-map (all_rows rows n (length cells.ends)) (row_run cells.ends), all_long rows n (length cells.ends) few)

shown_row : (rows : List Row) (n : ℕ) (cells : Celled) (v : ℕ) (row : Row) → IsLane rows n cells → v < length (shown_by rows n cells).runs → row ≡ get_or rows v (unused_row 0)
    → IsRowOf cells row (shown_by rows n cells) v
shown_row rows n cells v row lane below is =
    let size : ℕ = length cells.ends in
    let known = vertex_in rows n cells v lane.few below in
    let run : row_run cells.ends row ≡ run_of (shown_by rows n cells).runs v =
    ap (row_run cells.ends) is ∙ sym (shows_at (row_run cells.ends) [] rows n size v refl refl lane.few known) in
    let within : row_end row ≤ size = elim (cases_lt v (length rows)) [
      | inl a ↦ omega (arith, ap row_end is, lane.laid.within v (unused_row 0) a)
      | inr a ↦ omega (arith, ap row_end is, ap row_end (get_or_past rows v (unused_row 0) a))
    ] in
    record {
      run = run;
      len = omega (arith, ap length run, length-take row.len (drop row.start cells.ends), length-drop row.start cells.ends, within);
      spare = ap (λ (r : Row). r.spare) is ∙ sym (shows_at (λ (r : Row). r.spare) 0 rows n size v refl refl lane.few known);
      fresh = ap (λ (r : Row). r.fresh) is ∙ sym (shows_at (λ (r : Row). r.fresh) 0 rows n size v refl refl lane.few known);
      within = within;
      small = omega (arith, lane.fits, lane.small);
    }

-- by a reading of it that answers for all vertices
pub row_found : (rows : List Row) (n : ℕ) (cells : Celled) (lane : Laned) (v : ℕ) (row : Row) → IsLane rows n cells → shown_by rows n cells ≡ lane → v < length lane.runs
    → row ≡ get_or rows v (unused_row 0) → IsRowOf cells row lane v
row_found rows n cells lane v row is_lane view below is =
    subst (λ (l : Laned). IsRowOf cells row l v) view (shown_row rows n cells v row is_lane (omega (arith, below, ap (λ (l : Laned). length l.runs) view)) is)

-- and by one that has a row
pub row_there : (rows : List Row) (n : ℕ) (cells : Celled) (lane : Laned) (v : ℕ) (row : Row) → IsLane rows n cells → shown_by rows n cells ≡ lane → v < length lane.runs
    → v < length rows → row ≡ get_or rows v row → IsRowOf cells row lane v
row_there rows n cells lane v row is_lane view below in_rows is =
    row_found rows n cells lane v row is_lane view below (is ∙ sym (get_or_default rows v (unused_row 0) row in_rows))

-- a vertex with an end, or with room for one, has a row
pub below_run : (rows : List Row) (n : ℕ) (cells : Celled) (lane : Laned) (v : ℕ) → IsLane rows n cells → shown_by rows n cells ≡ lane → v < length lane.runs
    → 0 < length (run_of lane.runs v) → v < length rows
below_run rows n cells lane v is_lane view below any =
    let row : Row = get_or rows v (unused_row 0) in
    let found = row_found rows n cells lane v row is_lane view below refl in
    elim (cases_lt v (length rows)) [
      | inl a ↦ a
      | inr a ↦ absurd (omega (arith, any, found.len, ap (λ (r : Row). r.len) (get_or_past rows v (unused_row 0) a)))
    ]

pub below_spare : (rows : List Row) (n : ℕ) (cells : Celled) (lane : Laned) (v : ℕ) → IsLane rows n cells → shown_by rows n cells ≡ lane → v < length lane.runs
    → 0 < get_or lane.spare v 0 → v < length rows
below_spare rows n cells lane v is_lane view below some =
    let row : Row = get_or rows v (unused_row 0) in
    let found = row_found rows n cells lane v row is_lane view below refl in
    elim (cases_lt v (length rows)) [
      | inl a ↦ a
      | inr a ↦ absurd (omega (arith, some, found.spare, ap (λ (r : Row). r.spare) (get_or_past rows v (unused_row 0) a)))
    ]

pub below_all : (rows : List Row) (n : ℕ) (cells : Celled) (lane : Laned) (v : ℕ) → IsLane rows n cells → shown_by rows n cells ≡ lane → v < length lane.runs → v < n
below_all rows n cells lane v is_lane view below = vertex_in rows n cells v is_lane.few (omega (arith, below, ap (λ (l : Laned). length l.runs) view))

-- an end of a run, where it lies
pub run_get : (cells : List End) (start len i : ℕ) → i < len → start + len ≤ length cells → slice_get (take len (drop start cells)) i ≡ slice_get cells (start + i)
run_get cells start len i below inside =
    let d : End = record { vertex = 0; kind = Click; at = 0 } in
    slice_get-get_or (take len (drop start cells)) i d (omega (arith, length-take len (drop start cells), length-drop start cells))
    ∙ (ap Some (get_or-take len (drop start cells) i d below ∙ get_or-drop start cells i d) ∙ sym (slice_get-get_or cells (start + i) d (omega arith)))

-- what no rows show
none_shown : (n : ℕ) (cells : Celled) → shown_by [] n cells ≡ record { runs = replicate n []; spare = replicate n 0; fresh = replicate n 0; room = cells.room }
none_shown n cells =
    let size : ℕ = length cells.ends in
    let no : List Row = [] in
    let all : n - length no ≡ n = omega arith in
    let a : map (row_run cells.ends) (all_rows [] n size) ≡ replicate n [] = map_all (row_run cells.ends) [] [] n size refl ∙ ap (λ (k : ℕ). replicate k []) all in
    let b : map (λ (r : Row). r.spare) (all_rows [] n size) ≡ replicate n 0 = map_all (λ (r : Row). r.spare) 0 [] n size refl ∙ ap (λ (k : ℕ). replicate k 0) all in
    let c : map (λ (r : Row). r.fresh) (all_rows [] n size) ≡ replicate n 0 = map_all (λ (r : Row). r.fresh) 0 [] n size refl ∙ ap (λ (k : ℕ). replicate k 0) all in
    rw (a, b, c) refl

pub shown_none : (rows : List Row) (n : ℕ) (cells : Celled) → rows ≡ [] → shown_by rows n cells ≡ record { runs = replicate n []; spare = replicate n 0; fresh = replicate n 0; room = cells.room }
shown_none rows n cells none = ap (λ (l : List Row). shown_by l n cells) none ∙ none_shown n cells

pub rows_emptied : (rows rows' : List Row) (n : ℕ) (cells : Celled) → length rows ≤ n → rows' ≡ [] → shown_by rows' n cells ≡ emptied (shown_by rows n cells)
rows_emptied rows rows' n cells few none =
    let size : ℕ = length cells.ends in
    let long : length (map (row_run cells.ends) (all_rows rows n size)) ≡ n = length-map (all_rows rows n size) (row_run cells.ends) ∙ all_long rows n size few in
    shown_none rows' n cells none ∙ ap (λ (k : ℕ). record { runs = replicate k []; spare = replicate k 0; fresh = replicate k 0; room = cells.room }) (sym long)
