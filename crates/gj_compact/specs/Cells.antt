-- Ends in columns. Private to this crate: no public clause cites it.
use Rattle.std.specs.Prelude.{◌≡◌, ℕ, ◌+◌, ◌/◌, ◌≤◌, List, [], ◌∷◌, IsTrue, length, slice_set}
use Rattle.std.specs.Vec.{vec_capacity}
use Rattle.gj_base.specs.declared.kind.Kind.{Kind}
use Rattle.gj_compact.specs.declared.cells.Cells.TheInside.{Inside}
use Rattle.gj_compact.specs.declared.edge.End.{End}
use Rattle.gj_compact.specs.Spans.{AreSpans}
use Rattle.gj_compact.specs.Sums.{AreSums, IsRoom}

-- the ends that there are, and how many there may be
pub record Celled : Type 0 where
  pub ends : List End
  pub room : ℕ

-- the ends of these vertices, kinds and moments
unfoldable pub joined : List ℕ → List Kind → List ℕ → List End
joined (v ∷ vertices) (kind ∷ kinds) (at ∷ moments) = (record { vertex = v; kind = kind; at = at }) ∷ joined vertices kinds moments
joined _ _ _ = []

abbrev pub shown_by : Inside → Celled
shown_by c = record { ends = joined c.vertices.items c.kinds.items c.moments.items; room = c.room }

-- what stays true of cells: there is memory for all of them and their blocks, and once they are sealed their blocks are told
pub record IsCells (c : Inside) : Type 0 where
  pub kinds : length c.kinds.items ≡ length c.vertices.items
  pub moments : length c.moments.items ≡ length c.vertices.items
  pub few : length c.vertices.items ≤ c.room
  pub small : c.room ≤ 8388608
  pub held_vertices : c.room ≤ vec_capacity c.vertices
  pub held_kinds : c.room ≤ vec_capacity c.kinds
  pub held_moments : c.room ≤ vec_capacity c.moments
  pub held_sums : c.room / 64 + 1 ≤ vec_capacity c.sums
  pub held_spans : c.room / 64 + 1 ≤ vec_capacity c.spans
  pub paired : length c.spans.items ≡ length c.sums.items
  pub blocks : IsTrue c.sealed → IsRoom c.sums.items c.kinds.items
  pub sums : IsTrue c.sealed → AreSums c.sums.items c.kinds.items
  pub spans : IsTrue c.sealed → AreSpans c.spans.items c.moments.items

-- the same ends but for the one at a place
abbrev pub with_end : Celled → ℕ → End → Celled
with_end cells i end = record { ends = slice_set cells.ends i end; room = cells.room }
