use Rattle.std.proofs.Common.{◌∙◌, List, ◌++◌, refl, ap, arith}
use Rattle.gj_base.specs.declared.item.Item.{Item}
use Rattle.gj_window.proofs.FieldLemmas.{none_yet}
use Rattle.gj_window.proofs.segments.Segments.new.Goals as goal

pub returns-clause-empty : goal.returns-clause-empty
returns-clause-empty c =
    let d = c.in_ok-directory.ensures in
    let o = c.in_ok-older.ensures in
    let n = c.in_ok-newest.ensures in
    ap (λ (l : List Item). l ++ (c.in_ok-older.older.items ++ c.in_ok-newest.newest.items)) d.full
    ∙ (ap (λ (l : List Item). l ++ c.in_ok-newest.newest.items) o.empty ∙ n.empty)

pub invariant_of-result : goal.invariant_of-result
invariant_of-result c =
    let d = c.in_ok-directory.ensures in
    let o = c.in_ok-older.ensures in
    let n = c.in_ok-newest.ensures in
    let conf = c.capacity-capacity.ensures in
    none_yet _ conf.in_range d.full d.fresh o.empty n.empty (o.room ∙ conf.exact) (n.room ∙ conf.exact)
    (d.room ∙ c.room.ensures.exact) (omega (arith, d.room, d.names, c.room.ensures.exact, c.names_for.ensures.room)) refl
