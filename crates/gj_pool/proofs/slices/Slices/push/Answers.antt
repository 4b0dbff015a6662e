use Rattle.std.proofs.Common.{◌≡◌, ◌+◌, ap, refl, arith}
use Rattle.std.proofs.lemmas.List.{length-set}
use Rattle.gj_pool.specs.Slices.{Sliced}
use Rattle.gj_pool.specs.declared.slices.Row.{Row}
use Rattle.gj_pool.proofs.ArrayLemmas.{finds, Cuts, leaves}
use Rattle.gj_pool.proofs.BeginLemmas.{from_set}
use Rattle.gj_pool.proofs.PushLemmas.{sliced}
use Rattle.gj_pool.proofs.slices.Slices.push.Goals as goal

pub ready-row-requires-clause-linked : goal.ready-row-requires-clause-linked
ready-row-requires-clause-linked c full some =
    let f = finds c.self.inside.cells.items c.self.inside.room c.self.inside.rows.items c.args.v c.args.cell c.index.result.now c.args.self.now
    c.self.invariant.0 c.self.invariant.2 c.self.view_is c.requires.in_range c.requires.room c.index.ensures in
    omega (arith, f.link full some)

pub ready-row-requires-clause-small : goal.ready-row-requires-clause-small
ready-row-requires-clause-small c full =
    let f = finds c.self.inside.cells.items c.self.inside.room c.self.inside.rows.items c.args.v c.args.cell c.index.result.now c.args.self.now
    c.self.invariant.0 c.self.invariant.2 c.self.view_is c.requires.in_range c.requires.room c.index.ensures in
    omega (arith, f.fits full, f.small)

pub ready-row-requires-clause-room : goal.ready-row-requires-clause-room
ready-row-requires-clause-room c full =
    let f = finds c.self.inside.cells.items c.self.inside.room c.self.inside.rows.items c.args.v c.args.cell c.index.result.now c.args.self.now
    c.self.invariant.0 c.self.invariant.2 c.self.view_is c.requires.in_range c.requires.room c.index.ensures in
    omega (arith, f.fits full, c.self.invariant.3)

pub index_mut-requires : goal.index_mut-requires
index_mut-requires c =
    let f = finds c.self.inside.cells.items c.self.inside.room c.self.inside.rows.items c.args.v c.args.cell c.index.result.now c.args.self.now
    c.self.invariant.0 c.self.invariant.2 c.self.view_is c.requires.in_range c.requires.room c.index.ensures in
    let cuts : Cuts c.index.result.now c.ready-row.result c.self.inside.cells.items c.ready-row.new.cells.items = record {
      spare = c.ready-row.ensures.spare;
      opened = c.ready-row.ensures.opened;
      begun = c.ready-row.ensures.begun;
      linked = c.ready-row.ensures.linked;
    } in
    let row : Row = c.ready-row.result in
    let next : Row = record { degree = row.degree + 1; full = row.full; first = row.first; next = row.next + 1 } in
    let after = leaves c.self.inside.cells.items c.ready-row.new.cells.items c.self.inside.room c.self.inside.rows.items c.args.v c.args.cell c.index.result.now row next c.args.self.now
    f cuts refl refl refl refl in
    omega (arith, after.within, c.ready-row.new.cells.ok)

pub overflow_add-row-2 : goal.overflow_add-row-2
overflow_add-row-2 c =
    let f = finds c.self.inside.cells.items c.self.inside.room c.self.inside.rows.items c.args.v c.args.cell c.index.result.now c.args.self.now
    c.self.invariant.0 c.self.invariant.2 c.self.view_is c.requires.in_range c.requires.room c.index.ensures in
    let cuts : Cuts c.index.result.now c.ready-row.result c.self.inside.cells.items c.ready-row.new.cells.items = record {
      spare = c.ready-row.ensures.spare;
      opened = c.ready-row.ensures.opened;
      begun = c.ready-row.ensures.begun;
      linked = c.ready-row.ensures.linked;
    } in
    let row : Row = c.ready-row.result in
    let next : Row = record { degree = row.degree + 1; full = row.full; first = row.first; next = row.next + 1 } in
    let after = leaves c.self.inside.cells.items c.ready-row.new.cells.items c.self.inside.room c.self.inside.rows.items c.args.v c.args.cell c.index.result.now row next c.args.self.now
    f cuts refl refl refl refl in
    omega (arith, after.small)

pub invariant_of-self : goal.invariant_of-self
invariant_of-self c =
    let f = finds c.self.inside.cells.items c.self.inside.room c.self.inside.rows.items c.args.v c.args.cell c.index.result.now c.args.self.now
    c.self.invariant.0 c.self.invariant.2 c.self.view_is c.requires.in_range c.requires.room c.index.ensures in
    let cuts : Cuts c.index.result.now c.ready-row.result c.self.inside.cells.items c.ready-row.new.cells.items = record {
      spare = c.ready-row.ensures.spare;
      opened = c.ready-row.ensures.opened;
      begun = c.ready-row.ensures.begun;
      linked = c.ready-row.ensures.linked;
    } in
    let row : Row = c.ready-row.result in
    let next : Row = record { degree = row.degree + 1; full = row.full; first = row.first; next = row.next + 1 } in
    let after = leaves c.self.inside.cells.items c.ready-row.new.cells.items c.self.inside.room c.self.inside.rows.items c.args.v c.args.cell c.index.result.now row next c.args.self.now
    f cuts refl refl refl refl in
    let begun = c.self.invariant.1 in (
      after.slices,
      record {
        within = omega (arith, begun.within, c.max-self-inside.ensures, length-set {A = Row});
        rest = λ v d from h. from_set (λ (row : Row). (row.degree ≡ 0) × (row.full ≡ 0)) c.self.inside.rows.items c.self.inside.begun c.args.v _ begun.rest v d (omega (arith, c.max-self-inside.ensures)) h;
      },
      after.few,
      omega (arith, c.self.invariant.3, c.ready-row.ensures.capacity),
    )

pub returns : goal.returns
returns c =
    let f = finds c.self.inside.cells.items c.self.inside.room c.self.inside.rows.items c.args.v c.args.cell c.index.result.now c.args.self.now
    c.self.invariant.0 c.self.invariant.2 c.self.view_is c.requires.in_range c.requires.room c.index.ensures in
    let cuts : Cuts c.index.result.now c.ready-row.result c.self.inside.cells.items c.ready-row.new.cells.items = record {
      spare = c.ready-row.ensures.spare;
      opened = c.ready-row.ensures.opened;
      begun = c.ready-row.ensures.begun;
      linked = c.ready-row.ensures.linked;
    } in
    let row : Row = c.ready-row.result in
    let next : Row = record { degree = row.degree + 1; full = row.full; first = row.first; next = row.next + 1 } in
    let after = leaves c.self.inside.cells.items c.ready-row.new.cells.items c.self.inside.room c.self.inside.rows.items c.args.v c.args.cell c.index.result.now row next c.args.self.now
    f cuts refl refl refl refl in
    record {
      exact = sliced _ _ _ _ after.seen (ap (λ (s : Sliced). s.room) c.self.view_is);
    }
