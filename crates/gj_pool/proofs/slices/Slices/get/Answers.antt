use Rattle.std.proofs.Common.{◌≡◌, ℕ, suc, ◌+◌, ◌-◌, ◌<◌, List, length, get_or, ap, sym, ◌∙◌, arith, map}
use Rattle.std.proofs.lemmas.List.{length-map, get_or_read}
use Rattle.gj_pool.specs.Levels.{hops_to}
use Rattle.gj_pool.specs.Lists.{cells_of}
use Rattle.gj_pool.specs.Slices.{array_of, slice_size, slice_start, slice_of}
use Rattle.gj_pool.specs.declared.slices.Row.{Row}
use Rattle.gj_pool.proofs.LevelLemmas.{size-zero}
use Rattle.gj_pool.proofs.SliceLemmas.{start-zero, length-row}
use Rattle.gj_pool.proofs.RowLemmas.{view_of, held_row}
use Rattle.gj_pool.proofs.ArrayLemmas.{array_read}
use Rattle.gj_pool.proofs.ReadLemmas.{IsLink, IsPlace, link_on_way, place_held}
use Rattle.gj_pool.proofs.slices.Slices.get.Goals as goal

pub loop-link-init : goal.loop-link-init
loop-link-init c = record {
  start = sym (start-zero (array_of c.self.inside.cells.items c.self.inside.room) c.index-row.result.now.first);
  size = sym size-zero;
}

pub overflow_add-start : goal.overflow_add-start
overflow_add-start c =
    let rows : List Row = c.self.inside.rows.items in
    let cut : List ℕ = c.self.inside.cells.items in
    let cells : List ℕ = array_of cut c.self.inside.room in
    let row : Row = c.index-row.result.now in
    let i : ℕ = c.args.i in
    let seen : map (view_of cells) rows ≡ c.args.self.now.lists = ap (λ s. s.lists) c.self.view_is in
    let within : c.args.v < length rows = omega (arith, c.requires.in_range, ap length seen, length-map rows (view_of cells)) in
    let list : cells_of c.args.self.now.lists c.args.v ≡ view_of cells row = held_row rows cells c.args.self.now.lists c.args.v row seen within c.index-row.ensures in
    let held : i < row.degree = omega (arith, c.requires.held, ap length list, length-row cells row.first row.degree) in
    let place : IsPlace cells (length cut) row.first row.degree i = place_held rows cells (length cut) c.args.v i row c.self.invariant.0 within c.index-row.ensures held in
    let m : ℕ = c.loop-link.link - 1 in
    let on_way : m < slice_of i = omega (arith, c.loop-link.auto.link, c.loop-link-test.true, c.links_to-link-end.ensures, ap (λ n. hops_to (n + 2)) c.from.ensures, place.slice) in
    let way : IsLink cells (length cut) row.first i m = link_on_way rows cells (length cut) c.args.v i m row c.self.invariant.0 within c.index-row.ensures held on_way in
    omega (arith, way.small, c.loop-link.invariant.start, c.loop-link.invariant.size)

pub index-requires : goal.index-requires
index-requires c =
    let rows : List Row = c.self.inside.rows.items in
    let cut : List ℕ = c.self.inside.cells.items in
    let cells : List ℕ = array_of cut c.self.inside.room in
    let row : Row = c.index-row.result.now in
    let i : ℕ = c.args.i in
    let seen : map (view_of cells) rows ≡ c.args.self.now.lists = ap (λ s. s.lists) c.self.view_is in
    let within : c.args.v < length rows = omega (arith, c.requires.in_range, ap length seen, length-map rows (view_of cells)) in
    let list : cells_of c.args.self.now.lists c.args.v ≡ view_of cells row = held_row rows cells c.args.self.now.lists c.args.v row seen within c.index-row.ensures in
    let held : i < row.degree = omega (arith, c.requires.held, ap length list, length-row cells row.first row.degree) in
    let place : IsPlace cells (length cut) row.first row.degree i = place_held rows cells (length cut) c.args.v i row c.self.invariant.0 within c.index-row.ensures held in
    let m : ℕ = c.loop-link.link - 1 in
    let on_way : m < slice_of i = omega (arith, c.loop-link.auto.link, c.loop-link-test.true, c.links_to-link-end.ensures, ap (λ n. hops_to (n + 2)) c.from.ensures, place.slice) in
    let way : IsLink cells (length cut) row.first i m = link_on_way rows cells (length cut) c.args.v i m row c.self.invariant.0 within c.index-row.ensures held on_way in
    omega (arith, way.within, c.loop-link.invariant.start, c.loop-link.invariant.size, c.self.inside.cells.ok)

pub overflow_mul-size : goal.overflow_mul-size
overflow_mul-size c =
    let rows : List Row = c.self.inside.rows.items in
    let cut : List ℕ = c.self.inside.cells.items in
    let cells : List ℕ = array_of cut c.self.inside.room in
    let row : Row = c.index-row.result.now in
    let i : ℕ = c.args.i in
    let seen : map (view_of cells) rows ≡ c.args.self.now.lists = ap (λ s. s.lists) c.self.view_is in
    let within : c.args.v < length rows = omega (arith, c.requires.in_range, ap length seen, length-map rows (view_of cells)) in
    let list : cells_of c.args.self.now.lists c.args.v ≡ view_of cells row = held_row rows cells c.args.self.now.lists c.args.v row seen within c.index-row.ensures in
    let held : i < row.degree = omega (arith, c.requires.held, ap length list, length-row cells row.first row.degree) in
    let place : IsPlace cells (length cut) row.first row.degree i = place_held rows cells (length cut) c.args.v i row c.self.invariant.0 within c.index-row.ensures held in
    let m : ℕ = c.loop-link.link - 1 in
    let on_way : m < slice_of i = omega (arith, c.loop-link.auto.link, c.loop-link-test.true, c.links_to-link-end.ensures, ap (λ n. hops_to (n + 2)) c.from.ensures, place.slice) in
    let way : IsLink cells (length cut) row.first i m = link_on_way rows cells (length cut) c.args.v i m row c.self.invariant.0 within c.index-row.ensures held on_way in
    omega (arith, way.size, c.loop-link.invariant.size, c.ranges.i)

pub loop-link-preserved : goal.loop-link-preserved
loop-link-preserved c =
    let rows : List Row = c.self.inside.rows.items in
    let cut : List ℕ = c.self.inside.cells.items in
    let cells : List ℕ = array_of cut c.self.inside.room in
    let row : Row = c.index-row.result.now in
    let i : ℕ = c.args.i in
    let seen : map (view_of cells) rows ≡ c.args.self.now.lists = ap (λ s. s.lists) c.self.view_is in
    let within : c.args.v < length rows = omega (arith, c.requires.in_range, ap length seen, length-map rows (view_of cells)) in
    let list : cells_of c.args.self.now.lists c.args.v ≡ view_of cells row = held_row rows cells c.args.self.now.lists c.args.v row seen within c.index-row.ensures in
    let held : i < row.degree = omega (arith, c.requires.held, ap length list, length-row cells row.first row.degree) in
    let place : IsPlace cells (length cut) row.first row.degree i = place_held rows cells (length cut) c.args.v i row c.self.invariant.0 within c.index-row.ensures held in
    let m : ℕ = c.loop-link.link - 1 in
    let on_way : m < slice_of i = omega (arith, c.loop-link.auto.link, c.loop-link-test.true, c.links_to-link-end.ensures, ap (λ n. hops_to (n + 2)) c.from.ensures, place.slice) in
    let way : IsLink cells (length cut) row.first i m = link_on_way rows cells (length cut) c.args.v i m row c.self.invariant.0 within c.index-row.ensures held on_way in
    let next : c.loop-link.link + 1 - 1 ≡ suc m = omega (arith, c.loop-link.auto.link) in
    let at : c.loop-link.start + c.loop-link.size ≡ slice_start cells row.first m + slice_size m = omega (arith, c.loop-link.invariant.start, c.loop-link.invariant.size) in
    record {
      start = array_read cut c.self.inside.room (c.loop-link.start + c.loop-link.size) c.index.result.now (omega (arith, way.within, at))
          (get_or_read cut (c.loop-link.start + c.loop-link.size) c.index.result.now (omega (arith, way.within, at)) c.index.ensures 0)
          ∙ (ap (λ a. get_or cells a 0) at ∙ (sym way.next ∙ ap (slice_start cells row.first) (sym next)));
      size = omega (arith, way.twice, c.loop-link.invariant.size, ap slice_size next);
    }

pub overflow_sub-i : goal.overflow_sub-i
overflow_sub-i c =
    let rows : List Row = c.self.inside.rows.items in
    let cut : List ℕ = c.self.inside.cells.items in
    let cells : List ℕ = array_of cut c.self.inside.room in
    let row : Row = c.index-row.result.now in
    let i : ℕ = c.args.i in
    let seen : map (view_of cells) rows ≡ c.args.self.now.lists = ap (λ s. s.lists) c.self.view_is in
    let within : c.args.v < length rows = omega (arith, c.requires.in_range, ap length seen, length-map rows (view_of cells)) in
    let list : cells_of c.args.self.now.lists c.args.v ≡ view_of cells row = held_row rows cells c.args.self.now.lists c.args.v row seen within c.index-row.ensures in
    let held : i < row.degree = omega (arith, c.requires.held, ap length list, length-row cells row.first row.degree) in
    let place : IsPlace cells (length cut) row.first row.degree i = place_held rows cells (length cut) c.args.v i row c.self.invariant.0 within c.index-row.ensures held in
    let last : c.loop-link.link - 1 ≡ slice_of i = omega (arith, c.loop-link.auto.link-end, c.loop-link-test.false, c.links_to-link-end.ensures, ap (λ n. hops_to (n + 2)) c.from.ensures, place.slice) in
    let start : c.loop-link.start ≡ slice_start cells row.first (slice_of i) = c.loop-link.invariant.start ∙ ap (slice_start cells row.first) last in
    let size : c.loop-link.size ≡ slice_size (slice_of i) = c.loop-link.invariant.size ∙ ap slice_size last in
    omega (arith, size, place.low)

pub overflow_add-start-2 : goal.overflow_add-start-2
overflow_add-start-2 c =
    let rows : List Row = c.self.inside.rows.items in
    let cut : List ℕ = c.self.inside.cells.items in
    let cells : List ℕ = array_of cut c.self.inside.room in
    let row : Row = c.index-row.result.now in
    let i : ℕ = c.args.i in
    let seen : map (view_of cells) rows ≡ c.args.self.now.lists = ap (λ s. s.lists) c.self.view_is in
    let within : c.args.v < length rows = omega (arith, c.requires.in_range, ap length seen, length-map rows (view_of cells)) in
    let list : cells_of c.args.self.now.lists c.args.v ≡ view_of cells row = held_row rows cells c.args.self.now.lists c.args.v row seen within c.index-row.ensures in
    let held : i < row.degree = omega (arith, c.requires.held, ap length list, length-row cells row.first row.degree) in
    let place : IsPlace cells (length cut) row.first row.degree i = place_held rows cells (length cut) c.args.v i row c.self.invariant.0 within c.index-row.ensures held in
    let last : c.loop-link.link - 1 ≡ slice_of i = omega (arith, c.loop-link.auto.link-end, c.loop-link-test.false, c.links_to-link-end.ensures, ap (λ n. hops_to (n + 2)) c.from.ensures, place.slice) in
    let start : c.loop-link.start ≡ slice_start cells row.first (slice_of i) = c.loop-link.invariant.start ∙ ap (slice_start cells row.first) last in
    let size : c.loop-link.size ≡ slice_size (slice_of i) = c.loop-link.invariant.size ∙ ap slice_size last in
    omega (arith, start, size, place.small)

pub index-requires-2 : goal.index-requires-2
index-requires-2 c =
    let rows : List Row = c.self.inside.rows.items in
    let cut : List ℕ = c.self.inside.cells.items in
    let cells : List ℕ = array_of cut c.self.inside.room in
    let row : Row = c.index-row.result.now in
    let i : ℕ = c.args.i in
    let seen : map (view_of cells) rows ≡ c.args.self.now.lists = ap (λ s. s.lists) c.self.view_is in
    let within : c.args.v < length rows = omega (arith, c.requires.in_range, ap length seen, length-map rows (view_of cells)) in
    let list : cells_of c.args.self.now.lists c.args.v ≡ view_of cells row = held_row rows cells c.args.self.now.lists c.args.v row seen within c.index-row.ensures in
    let held : i < row.degree = omega (arith, c.requires.held, ap length list, length-row cells row.first row.degree) in
    let place : IsPlace cells (length cut) row.first row.degree i = place_held rows cells (length cut) c.args.v i row c.self.invariant.0 within c.index-row.ensures held in
    let last : c.loop-link.link - 1 ≡ slice_of i = omega (arith, c.loop-link.auto.link-end, c.loop-link-test.false, c.links_to-link-end.ensures, ap (λ n. hops_to (n + 2)) c.from.ensures, place.slice) in
    let start : c.loop-link.start ≡ slice_start cells row.first (slice_of i) = c.loop-link.invariant.start ∙ ap (slice_start cells row.first) last in
    let size : c.loop-link.size ≡ slice_size (slice_of i) = c.loop-link.invariant.size ∙ ap slice_size last in
    omega (arith, start, size, place.within, c.self.inside.cells.ok)

pub returns : goal.returns
returns c =
    let rows : List Row = c.self.inside.rows.items in
    let cut : List ℕ = c.self.inside.cells.items in
    let cells : List ℕ = array_of cut c.self.inside.room in
    let row : Row = c.index-row.result.now in
    let i : ℕ = c.args.i in
    let seen : map (view_of cells) rows ≡ c.args.self.now.lists = ap (λ s. s.lists) c.self.view_is in
    let within : c.args.v < length rows = omega (arith, c.requires.in_range, ap length seen, length-map rows (view_of cells)) in
    let list : cells_of c.args.self.now.lists c.args.v ≡ view_of cells row = held_row rows cells c.args.self.now.lists c.args.v row seen within c.index-row.ensures in
    let held : i < row.degree = omega (arith, c.requires.held, ap length list, length-row cells row.first row.degree) in
    let place : IsPlace cells (length cut) row.first row.degree i = place_held rows cells (length cut) c.args.v i row c.self.invariant.0 within c.index-row.ensures held in
    let last : c.loop-link.link - 1 ≡ slice_of i = omega (arith, c.loop-link.auto.link-end, c.loop-link-test.false, c.links_to-link-end.ensures, ap (λ n. hops_to (n + 2)) c.from.ensures, place.slice) in
    let start : c.loop-link.start ≡ slice_start cells row.first (slice_of i) = c.loop-link.invariant.start ∙ ap (slice_start cells row.first) last in
    let size : c.loop-link.size ≡ slice_size (slice_of i) = c.loop-link.invariant.size ∙ ap slice_size last in
    let at : c.loop-link.start + (i + 4 - c.loop-link.size) ≡ slice_start cells row.first (slice_of i) + (i + 4 - slice_size (slice_of i)) = omega (arith, start, size) in
    record {
      exact = array_read cut c.self.inside.room (c.loop-link.start + (i + 4 - c.loop-link.size)) c.index-2.result.now (omega (arith, at, place.within))
          (get_or_read cut (c.loop-link.start + (i + 4 - c.loop-link.size)) c.index-2.result.now (omega (arith, at, place.within)) c.index-2.ensures 0)
          ∙ (ap (λ a. get_or cells a 0) at ∙ (sym place.read ∙ ap (λ (l : List ℕ). get_or l i 0) (sym list)));
    }
