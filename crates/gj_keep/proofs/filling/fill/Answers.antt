use Rattle.std.proofs.Common.{◌≡◌, ℕ, ◌+◌, List, [], ◌∷◌, ◌++◌, take, map, length, get_or, sym, ap, ◌∙◌, arith, length-take, length-append}
use Rattle.std.proofs.lemmas.List.{take_more, map-append, length-map}
use Rattle.gj_base.specs.declared.item.Item.{Item}
use Rattle.gj_base.specs.declared.keeper.KeptItem.{KeptItem}
use Rattle.gj_base.specs.declared.history.Shown.{Shown}
use Rattle.gj_base.specs.History.{end_of, more}
use Rattle.gj_base.proofs.Windows.{more_none, more_end, more_more}
use Rattle.gj_keep.specs.Rows.{item_of, first_place}
use Rattle.gj_keep.proofs.RowLemmas.{follow_get}
use Rattle.gj_keep.proofs.StoreLemmas.{sound_of, sound_end}
use Rattle.gj_keep.proofs.filling.fill.Goals as goal

pub loop-row-init : goal.loop-row-init
loop-row-init g c = sym (more_none _ (g.met.W.Graph.is_window c.args.graph.now))

pub item_in-requires : goal.item_in-requires
item_in-requires g c = follow_get (first_place c.args.rows.now) c.args.rows.now c.loop-row.row-index _ (sound_of c.args.conf c.args.rows.now c.requires.good).follow c.loop-row-test.true

pub add-requires : goal.add-requires
add-requires g c =
    let w : Shown = g.W.Graph.shown c.args.graph.now in
    let rows : List KeptItem = c.args.rows.now in
    let at : ℕ = c.loop-row.row-index in
    let xs : List Item = map item_of (take at rows) in
    let e = more_end w xs (g.met.W.Graph.is_window c.args.graph.now) in
    let first : w.first ≡ first_place rows = ap (λ (v : Shown). v.first) c.requires.empty in
    let none : length w.items ≡ 0 = ap (λ (v : Shown). length v.items) c.requires.empty in
    let end = sound_end c.args.conf rows (sound_of c.args.conf rows c.requires.good) in
    let low = c.loop-row-test.true in
    omega (arith, ap end_of c.loop-row.invariant, e, length-append w.items xs, length-map (take at rows) item_of, length-take at rows, first, none, end, low)

pub loop-row-preserved : goal.loop-row-preserved
loop-row-preserved g c =
    let w : Shown = g.W.Graph.shown c.args.graph.now in
    let rows : List KeptItem = c.args.rows.now in
    let at : ℕ = c.loop-row.row-index in
    let xs : List Item = map item_of (take at rows) in
    let x : Item = c.item_in.result in
    let row : KeptItem = get_or rows at (record { place = 0; user = 0; post = 0; kind = 0; moment = 0 }) in
    let taken : map item_of (take (at + 1) rows) ≡ xs ++ x ∷ [] =
    ap (map item_of) (take_more rows at (record { place = 0; user = 0; post = 0; kind = 0; moment = 0 }) c.loop-row-test.true) ∙ (map-append item_of (take at rows) (row ∷ []) ∙ ap (λ (y : Item). xs ++ y ∷ []) (sym c.item_in.ensures)) in
    c.add.ensures ∙ (ap (λ (v : Shown). more v (x ∷ [])) c.loop-row.invariant
    ∙ (more_more w xs (x ∷ []) (g.met.W.Graph.is_window c.args.graph.now) ∙ ap (more w) (sym taken)))
