-- How the ends of each vertex lie in one array, oldest first.
use Rattle.std.specs.Prelude.{ℕ, ◌+◌, ◌-◌, ◌<◌, ◌≤◌, List, [], ◌∷◌, ◌++◌, length, map, replicate, take, drop, sum_by, slice_index_or, slice_set}
use Rattle.gj_compact.specs.declared.lane.Row.{Row}
use Rattle.gj_compact.specs.declared.edge.End.{End}
use Rattle.gj_compact.specs.Cells.{Celled}

-- what contracts see: one list of ends per vertex, how many more each may take at once, and how many were noted
pub record Laned : Type 0 where
  pub runs : List (List End)
  pub spare : List ℕ
  pub fresh : List ℕ
  pub room : ℕ

-- the ends of vertex v
abbrev pub run_of : List (List End) → ℕ → List End
run_of runs v = slice_index_or runs v []

-- the ends of a row
abbrev pub row_run : List End → Row → List End
row_run cells row = take row.len (drop row.start cells)

-- the place after what the row may hold
abbrev pub row_end : Row → ℕ
row_end row = row.start + row.len + row.spare

-- what these rows of all vertices show
abbrev pub laned : List Row → List End → ℕ → Laned
laned rows cells room = record {
  runs = map (row_run cells) rows;
  spare = map (λ (row : Row). row.spare) rows;
  fresh = map (λ (row : Row). row.fresh) rows;
  room = room;
}

-- the row of a vertex for which nothing was noted, behind all cells
abbrev pub unused_row : ℕ → Row
unused_row size = record { start = size; len = 0; spare = 0; fresh = 0 }

-- the rows of all vertices: nothing was noted for those behind the rows that there are
abbrev pub all_rows : List Row → ℕ → ℕ → List Row
all_rows rows vertices size = rows ++ replicate (vertices - length rows) (unused_row size)

abbrev pub shown_by : List Row → ℕ → Celled → Laned
shown_by rows vertices cells = laned (all_rows rows vertices (length cells.ends)) cells.ends cells.room

-- the rows lie one behind the other
pub record AreLaid (rows : List Row) (size : ℕ) : Type 0 where
  pub within : (v : ℕ) (d : Row) → v < length rows → row_end (slice_index_or rows v d) ≤ size
  pub apart : (v w : ℕ) (d : Row) → v < w → w < length rows → row_end (slice_index_or rows v d) ≤ (slice_index_or rows w d).start

-- what stays true of a lane
pub record IsLane (rows : List Row) (vertices : ℕ) (cells : Celled) : Type 0 where
  pub small : cells.room ≤ 8388608
  pub fits : length cells.ends ≤ cells.room
  pub laid : AreLaid rows (length cells.ends)
  pub few : length rows ≤ vertices

-- what a row holds, and what was noted for it
abbrev pub want_of : Row → ℕ
want_of row = row.len + row.fresh

-- how many ends there are
abbrev pub total_of : List (List End) → ℕ
total_of runs = sum_by (λ (run : List End). length run) runs

-- how many were noted
abbrev pub sum_of : List ℕ → ℕ
sum_of notes = sum_by (λ (n : ℕ). n) notes

-- all ends and what was noted
abbrev pub wanted : Laned → ℕ
wanted lane = total_of lane.runs + sum_of lane.fresh

-- the same ends, each vertex with room for what was noted
abbrev pub opened : Laned → Laned
opened lane = record {
  runs = lane.runs;
  spare = lane.fresh;
  fresh = map (λ (n : ℕ). 0) lane.fresh;
  room = lane.room;
}

-- no ends, and nothing noted
abbrev pub emptied : Laned → Laned
emptied lane = record {
  runs = replicate (length lane.runs) [];
  spare = replicate (length lane.runs) 0;
  fresh = replicate (length lane.runs) 0;
  room = lane.room;
}

-- the lists after one more end for vertex v, and after its first one is gone
abbrev pub pushed : Laned → ℕ → End → Laned
pushed lane v end = record {
  runs = slice_set lane.runs v (run_of lane.runs v ++ end ∷ []);
  spare = slice_set lane.spare v (slice_index_or lane.spare v 0 - 1);
  fresh = lane.fresh;
  room = lane.room;
}

abbrev pub popped : Laned → ℕ → Laned
popped lane v = record {
  runs = slice_set lane.runs v (drop 1 (run_of lane.runs v));
  spare = lane.spare;
  fresh = lane.fresh;
  room = lane.room;
}

abbrev pub noted : Laned → ℕ → Laned
noted lane v = record {
  runs = lane.runs;
  spare = lane.spare;
  fresh = slice_set lane.fresh v (slice_index_or lane.fresh v 0 + 1);
  room = lane.room;
}
