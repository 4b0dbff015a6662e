use Rattle.std.proofs.Common.{ℕ, List, length, map, arith, ap, sym, subst, ◌∙◌}
use Rattle.std.specs.List.{sum_by}
use Rattle.std.proofs.lemmas.List.{with_items_is}
use Rattle.gj_compact.specs.declared.lane.Row.{Row}
use Rattle.gj_compact.specs.Cells.{Celled}
use Rattle.gj_compact.specs.Lanes.{Laned, AreLaid, want_of, wanted, opened, row_run, all_rows, laned, shown_by}
use Rattle.gj_compact.proofs.OpenLemmas.{all_wanted, lane_opened}
use Rattle.gj_compact.proofs.lane.Lane.open.Goals as goal

pub lay_out-requires-clause-fits : goal.lay_out-requires-clause-fits
lay_out-requires-clause-fits c =
    let rows = c.self.inside.rows.items in
    let cells = c.self.inside.cells in
    omega (
      arith,
      c.requires,
      all_wanted rows c.self.inside.vertices cells.ends cells.room c.self.invariant.0.laid,
      ap wanted c.self.view_is,
      ap (λ (l : Laned). l.room) c.self.view_is,
      ap (sum_by want_of) c.deref_mut.ensures.value,
    )

pub invariant_of-self : goal.invariant_of-self
invariant_of-self c =
    let rows = c.self.inside.rows.items in
    let cells' : Celled = c.lay_out.new.cells in
    let rows' : List Row = c.lay_out.new.rows in
    let rows_are = with_items_is c.self.inside.rows rows' (omega (arith, c.lay_out.auto.rows, c.deref_mut.ensures.len)) in (
      record {
        small = omega (arith, c.self.invariant.0.small, c.lay_out.ensures.room);
        fits = omega (
          arith,
          c.requires,
          all_wanted rows c.self.inside.vertices c.self.inside.cells.ends c.self.inside.cells.room c.self.invariant.0.laid,
          ap wanted c.self.view_is,
          ap (λ (l : Laned). l.room) c.self.view_is,
          ap (sum_by want_of) c.deref_mut.ensures.value,
          c.lay_out.ensures.size,
          c.lay_out.ensures.room,
        );
        laid = subst (λ (l : List Row). AreLaid l (length cells'.ends)) (sym rows_are) c.lay_out.ensures.laid;
        few = omega (arith, ap length rows_are, c.lay_out.auto.rows, ap length c.deref_mut.ensures.value, c.self.invariant.0.few);
      },
      c.self.invariant.1,
    )

pub returns : goal.returns
returns c =
    let rows = c.self.inside.rows.items in
    let n : ℕ = c.self.inside.vertices in
    let cells = c.self.inside.cells in
    let cells' : Celled = c.lay_out.new.cells in
    let rows' : List Row = c.lay_out.new.rows in
    let rows_are = with_items_is c.self.inside.rows rows' (omega (arith, c.lay_out.auto.rows, c.deref_mut.ensures.len)) in
    ap (λ (l : List Row). shown_by l n cells') rows_are ∙ (ap (λ (room : ℕ). laned (all_rows rows' n (length cells'.ends)) cells'.ends room) c.lay_out.ensures.room
    ∙ (lane_opened rows rows' n cells.ends cells'.ends cells.room (omega (arith, c.lay_out.auto.rows, ap length c.deref_mut.ensures.value))
    (c.lay_out.ensures.runs ∙ ap (map (row_run cells.ends)) c.deref_mut.ensures.value)
    (c.lay_out.ensures.spare ∙ ap (map (λ (r : Row). r.fresh)) c.deref_mut.ensures.value)
    (c.lay_out.ensures.fresh ∙ ap (map {B = ℕ} (λ (r : Row). 0)) c.deref_mut.ensures.value)
    ∙ ap opened c.self.view_is))
